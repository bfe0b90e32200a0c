-- What a submit answers is right for the list that the seat then knows.
use Rattle.std.proofs.Common.{◌≡◌, ⊎_elim, ℕ, Option, Some, None, List, [], ◌∷◌, ◌++◌, refl, subst}
use Rattle.wm_disk.specs.declared.refusal.Refusal.{Refusal}
use Rattle.wm_registry.specs.Roots.{State}
use Rattle.wm_registry.specs.declared.reply.Reply.{Reply}
use Rattle.wm_groupcommit.specs.declared.queued.Call.{Call}
use Rattle.wm_groupcommit.specs.declared.queued.Answer.{Answer}
use Rattle.wm_groupcommit.specs.declared.locked.deliveries.Delivery.{Delivery}
use Rattle.wm_groupcommit.specs.declared.locked.deliveries.ReplyView.{ReplyView}
use Rattle.wm_groupcommit.specs.Books.{Right, AllRight, RightReply, IsFailed}
use Rattle.wm_groupcommit.specs.ReplyQueues.{RightFor, Took}
use Rattle.wm_groupcommit.specs.Receipts.{ReceiptState}
use Rattle.wm_groupcommit.specs.Submits.{IsRefusal, Settled, Declined, TookOne, Submitted, Turned}

last_right : (base : State) (l : List Call) (xs : List Answer) (a : Answer) → AllRight base l (xs ++ a ∷ []) → Right base l a
last_right base l [] a r = r.0
last_right base l (x ∷ xs) a r = last_right base l xs a r.1

no_end : (xs : List Answer) (a : Answer) → xs ++ a ∷ [] ≡ [] → ⊥
no_end [] a e = cc
no_end (x ∷ xs) a e = cc

known : (b : Option State) (l : List Call) (xs : List Answer) (a : Answer) → RightFor b l (xs ++ a ∷ []) → (base : State) × (b ≡ Some base) × Right base l a
known None l xs a r = absurd (no_end xs a r)
known (Some base) l xs a r = (base, refl, last_right base l xs a r)

pub took_one : (old new : ReplyView) (x : Delivery) → Took old x new → (base : State) × TookOne old new x.answer base
took_one old new x h = let k = known new.base new.list old.got x.answer (subst (RightFor new.base new.list) h.4 h.5) in (k.0, (k.1, h.4, k.2, h.2))

-- an answer that was taken is right for the list that the seat then knows
pub taken_right : (old new : ReplyView) (x : Delivery) → Took old x new → (base : State) × Right base new.list x.answer
taken_right old new x h = let k = took_one old new x h in (k.0, k.1.2)

-- no receipt is given for a refusal
pub settled_right : (base : State) (l : List Call) (a : Answer) → (IsRefusal a.reply → ⊥) → Right base l a → RightReply base l a
settled_right base l a n r = ⊎_elim (λ (f : IsFailed a.reply). absurd (n (f.0, f.1))) (λ k. k) r

pub submitted : (old new : ReplyView) (x : Delivery) (seen now : ℕ) (call : Call) (reply : Reply) (receipt : ReceiptState) → Took old x new → Settled seen now new.list call x.answer reply receipt → Submitted old new seen now call reply receipt
submitted old new x seen now call reply receipt t s = let k = took_one old new x t in (x.answer, k.0, k.1, settled_right k.0 new.list x.answer s.answered k.1.2, s)

pub turned : (old new : ReplyView) (x : Delivery) (seen : ℕ) (call : Call) (e : Refusal) → Took old x new → Declined seen call x.answer e → Turned old new seen call e
turned old new x seen call e t d = let k = took_one old new x t in (x.answer, k.0, k.1, d)
