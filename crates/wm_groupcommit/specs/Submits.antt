-- What a submit answers.
use Rattle.std.specs.Prelude.{◌≡◌, ◌≢◌, ◌≤◌, ◌<◌, ◌⊎◌, ℕ, Some, None, List, [], ◌∷◌, ◌++◌}
use Rattle.wm_disk.specs.declared.refusal.Refusal.{Refusal}
use Rattle.wm_disk.specs.declared.refusal.Refusal.TheVariants.{StoreFailed}
use Rattle.wm_registry.specs.declared.reply.Reply.{Reply}
use Rattle.wm_registry.specs.declared.reply.Reply.TheVariants.{Refused}
use Rattle.wm_registry.specs.Roots.{State}
use Rattle.wm_groupcommit.specs.declared.queued.Call.{Call}
use Rattle.wm_groupcommit.specs.declared.queued.Answer.{Answer}
use Rattle.wm_groupcommit.specs.declared.locked.deliveries.Delivery.{Delivery}
use Rattle.wm_groupcommit.specs.declared.locked.deliveries.ReplyView.{ReplyView}
use Rattle.wm_groupcommit.specs.Books.{Right, RightReply}
use Rattle.wm_groupcommit.specs.Receipts.{ReceiptState, standing_for, mark_of}
use Rattle.wm_groupcommit.specs.ReplyQueues.{Took}

abbrev pub IsRefusal : Reply → Type 0
IsRefusal reply = (e : Refusal) × (reply ≡ Refused e)

-- the receipt is for this answer to this call, which tells of no fewer commands than the seat had seen or learnt of, and is right for this list
pub record Settled (seen now : ℕ) (list : List Call) (call : Call) (a : Answer) (reply : Reply) (receipt : ReceiptState) : Type 0 where
  pub call_is : a.call ≡ call
  pub later : seen ≤ a.at
  pub reply_is : reply ≡ a.reply
  pub answered : IsRefusal a.reply → ⊥
  pub seat : receipt.seat ≡ call.seat
  pub count : receipt.count ≡ call.count
  pub standing : receipt.standing ≡ standing_for a.reply a.at call.command
  pub mark : now ≡ mark_of receipt.standing
  pub known : receipt.list ≡ list

-- the answer is to another call, or doesn't fit what was learnt, or is past all numbers
abbrev pub Misfits : ℕ → Call → Answer → Type 0
Misfits seen call a = (a.call ≢ call) ⊎ (a.at < seen) ⊎ (a.at ≡ 18446744073709551615)

abbrev pub Declined : ℕ → Call → Answer → Refusal → Type 0
Declined seen call a e = ((e ≡ StoreFailed) × Misfits seen call a) ⊎ ((a.call ≡ call) × (seen ≤ a.at) × (a.reply ≡ Refused e))

-- the seat took one answer, which is to a call of its own, and right for the list that the flusher had
abbrev pub TookOne : ReplyView → ReplyView → Answer → State → Type 0
TookOne old new a base = (new.base ≡ Some base) × (new.got ≡ old.got ++ a ∷ []) × Right base new.list a × (old.seat ≡ Some a.call.seat)

abbrev pub Submitted : ReplyView → ReplyView → ℕ → ℕ → Call → Reply → ReceiptState → Type 0
Submitted old new seen now call reply receipt =
    (a : Answer) × (base : State) × TookOne old new a base × RightReply base new.list a × Settled seen now new.list call a reply receipt

abbrev pub Turned : ReplyView → ReplyView → ℕ → Call → Refusal → Type 0
Turned old new seen call e = (a : Answer) × (base : State) × TookOne old new a base × Declined seen call a e

-- the seat took one delivery, which shows this registry after so many commands, no fewer than it had seen; it has then seen these
abbrev pub LookAnswered : ReplyView → ReplyView → ℕ → ℕ → State → ℕ → Type 0
LookAnswered old new seen now registry count = (x : Delivery) × Took old x new × (x.registry ≡ Some registry) × (x.answer.at ≡ count) × (seen ≤ count) × (now ≡ count)

-- the seat took one delivery, which shows no registry, or one after fewer commands than it had seen
abbrev pub Unlooked : ReplyView → ReplyView → ℕ → Type 0
Unlooked old new seen = (x : Delivery) × Took old x new × ((x.registry ≡ None) ⊎ (x.answer.at < seen))
