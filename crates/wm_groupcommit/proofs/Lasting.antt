-- A receipt's command stands in each list that begins with the one that the receipt is right for.
use Rattle.std.proofs.Common.{◌≡◌, ◌-◌, ℕ, Option, Some, None, List, refl, sym, subst}
use Rattle.std.specs.Prelude.{IfSome, slice_get}
use Rattle.wm_registry.specs.declared.command.Command.{Command}
use Rattle.wm_groupcommit.specs.declared.queued.Call.{Call}
use Rattle.wm_groupcommit.specs.declared.receipt.Standing.{Standing}
use Rattle.wm_groupcommit.specs.declared.receipt.Standing.TheVariants.{Stands, Unchanged}
use Rattle.wm_groupcommit.specs.Receipts.{ReceiptState, StandsIn, StandsInBook, accepted_command}
use Rattle.wm_groupcommit.specs.ReplyQueues.{StartsWith}
use Rattle.wm_groupcommit.proofs.Answering.{get_front}

pub stands_here : (list : List Call) (seat count : ℕ) (s : Standing) → StandsIn list seat count s → IfSome (accepted_command s) (λ c. StandsInBook (record { standing = s; seat = seat; count = count; list = list }) list c)
stands_here list seat count (Stands n c) h = record { number = n; standing = refl; counted = h.0; stands = h.1 }
stands_here list seat count (Unchanged n) h = tt

stands_later : (r : ReceiptState) (l m : List Call) (c : Command) → StartsWith m l → StandsInBook r l c → StandsInBook r m c
stands_later r l m c s h = record {
  number = h.number;
  standing = h.standing;
  counted = h.counted;
  stands = subst (λ k. slice_get k (h.number - 1) ≡ Some (record { seat = r.seat; count = r.count; command = c })) (sym s.1) (get_front l s.0 (h.number - 1) _ h.stands);
}

pub some_later : (r : ReceiptState) (l m : List Call) (o : Option Command) → StartsWith m l → IfSome o (λ c. StandsInBook r l c) → IfSome o (λ c. StandsInBook r m c)
some_later r l m None s h = tt
some_later r l m (Some c) s h = stands_later r l m c s h
