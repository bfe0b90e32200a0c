-- What the contract of a submit says, from what its last step says.
use Rattle.std.proofs.Common.{◌≡◌, ◌≤◌, ◌+◌, ℕ, ⊎_elim, inl, inr, ap, sym, ◌∙◌, subst, refl, true, false, true≢false, Some, Result, Ok, Err, MatchResult, is_err, [], ◌∷◌, ◌++◌}
use Rattle.wm_disk.specs.declared.refusal.Refusal.{Refusal}
use Rattle.wm_disk.specs.declared.refusal.Refusal.TheVariants.{BadArguments, NoMemory, StoreFailed}
use Rattle.wm_registry.specs.declared.command.Command.{Command}
use Rattle.wm_registry.specs.declared.reply.Reply.{Reply}
use Rattle.wm_registry.specs.declared.reply.Reply.TheVariants.{Refused}
use Rattle.wm_registry.specs.Registry.{is_change}
use Rattle.wm_registry.specs.Roots.{State}
use Rattle.wm_store.specs.Batches.{in_batch, is_begin}
use Rattle.wm_groupcommit.specs.CallQueues.{call_view}
use Rattle.wm_groupcommit.specs.declared.locked.call_rule.CallView.{CallView}
use Rattle.wm_groupcommit.specs.declared.locked.deliveries.ReplyView.{ReplyView}
use Rattle.wm_groupcommit.specs.declared.queued.Answer.{Answer}
use Rattle.wm_groupcommit.specs.declared.queued.Call.{Call}
use Rattle.wm_groupcommit.specs.declared.seat.Seat.{Seat}
use Rattle.wm_groupcommit.specs.Books.{IsFailure, IsFailed, RightReply, state_at}
use Rattle.wm_groupcommit.specs.Seats.{HasPushed, IsAnswered, IsOfRegistry, IsRefusedAfter, IsTurned, IsUnused, call_from, known_list, pushed_calls}
use Rattle.wm_groupcommit.specs.Receipts.{ReceiptState, standing_for}
use Rattle.wm_groupcommit.specs.Submits.{IsRefusal, Misfits, Submitted, TookOne, Turned}
use Rattle.wm_groupcommit.proofs.Refusing.{begin_alone, not_failure, refused_by, three_is_none, unrefused}

pub answered : (old new : Seat) (command : Command) (reply : Reply) (receipt : ReceiptState) → new.calls ≡ old.calls + 1 → Submitted old.replies new.replies old.seen new.seen (call_from old command) reply receipt
    → IsAnswered old new command reply receipt
answered old new command reply receipt calls h =
    let a = h.0 in
    let base = h.1 in
    let took = h.2 in
    let right = h.3 in
    let settled = h.4 in
    let s = state_at base (known_list new) a.at in
    let met : reply ≡ in_batch s command = settled.reply_is ∙ right.1 ∙ ap (λ k. in_batch s k.command) settled.call_is in
    record {
      base = base;
      at = a.at;
      found = took.0;
      later = (settled.later, right.0);
      right = unrefused s command reply met (λ n. settled.answered (subst IsRefusal settled.reply_is n));
      stands = λ e. right.2 (ap is_change (sym settled.reply_is) ∙ e) ∙ ap (λ k. Some k) settled.call_is;
      standing = settled.standing ∙ ap (λ r. standing_for r a.at command) (sym settled.reply_is);
      call = (settled.seat, settled.count);
      list = settled.known;
      seen = settled.mark;
      calls = calls;
      taken = took.1 ∙ ap (λ (x : Answer). old.replies.got ++ x ∷ []) (λ i. record { call = settled.call_is i; at = a.at; reply = sym settled.reply_is i });
    }

-- what a call ensures that was told to be no error
pub unless_err : {T E : Type 0} (r : Result T E) (P : Type 0) (Q : E → Type 0) → MatchResult r (λ _. P) Q → is_err r ≡ false → P
unless_err (Ok x) P Q h e = h
unless_err (Err x) P Q h e = absurd (true≢false e)

-- a copy of the command was pushed
pub copy_pushed : (old : Seat) (w : CallView) (copy command : Command) → copy ≡ command → w ≡ call_view (pushed_calls old ++ call_from old copy ∷ []) old.pass.me.view.client.popped
    → w ≡ call_view (pushed_calls old ++ call_from old command ∷ []) old.pass.me.view.client.popped
copy_pushed old w copy command same e = subst (λ c. w ≡ call_view (pushed_calls old ++ call_from old c ∷ []) old.pass.me.view.client.popped) same e

same_seat : (n m : ℕ) → Some n ≡ Some m → n ≡ m
same_seat n m e = cc

-- nothing was pushed, since memory ran out
pub unused : (old new : Seat) (command : Command) → new.seen ≡ old.seen → IsUnused old new → IsTurned old new command NoMemory
unused old new command seen same = record { seen = seen; why = inl (refl, same) }

-- the call was made and declined
pub declined : (old new : Seat) (command : Command) (e : Refusal) → new.seen ≡ old.seen → new.calls ≡ old.calls + 1 → HasPushed old new (call_from old command)
    → Turned old.replies new.replies old.seen (call_from old command) e → IsTurned old new command e
declined old new command e seen calls pushed t = record {
  seen = seen;
  why = inr (record {
    answer = t.0;
    base = t.1;
    pushed = pushed;
    calls = calls;
    taken = t.2;
    own = same_seat _ _ (sym t.2.3 ∙ old.own);
    declined = t.3;
  });
}

-- the refusal is that of an answer that was taken, and right for the list
abbrev IsToldOf : ReplyView → ReplyView → ℕ → Call → Refusal → Type 0
IsToldOf old new seen call e = (a : Answer) × (base : State) × TookOne old new a base × (a.call ≡ call) × (seen ≤ a.at) × (a.reply ≡ Refused e)

told_of : (old new : ReplyView) (seen : ℕ) (call : Call) (e : Refusal) → ((e ≡ StoreFailed) → ⊥) → Turned old new seen call e → IsToldOf old new seen call e
told_of old new seen call e failed t =
    ⊎_elim (λ (s : (e ≡ StoreFailed) × Misfits seen call t.0). absurd (failed s.0))
    (λ (d : (t.0.call ≡ call) × (seen ≤ t.0.at) × (t.0.reply ≡ Refused e)). (t.0, t.1, t.2, d.0, d.1, d.2)) t.3

same_refusal : (e f : Refusal) → Refused e ≡ Refused f → e ≡ f
same_refusal e f h = cc

right_reply : (old new : ReplyView) (seen : ℕ) (call : Call) (e : Refusal) (t : IsToldOf old new seen call e) → (IsFailure e → ⊥) → RightReply t.1 new.list t.0
right_reply old new seen call e t n =
    ⊎_elim (λ (f : IsFailed t.0.reply). absurd (n (subst IsFailure (sym (same_refusal e f.0 (sym t.5 ∙ f.1))) f.2))) (λ k. k) t.2.2

met_so : (old new : ReplyView) (seen : ℕ) (call : Call) (e : Refusal) (t : IsToldOf old new seen call e) → RightReply t.1 new.list t.0 → in_batch (state_at t.1 new.list t.0.at) call.command ≡ Refused e
met_so old new seen call e t r = let s = state_at t.1 new.list t.0.at in ap (λ (k : Call). in_batch s k.command) (sym t.3) ∙ sym r.1 ∙ t.5

pub refused_after : (old new : Seat) (command : Command) (e : Refusal) → Turned old.replies new.replies old.seen (call_from old command) e → IsOfRegistry e → IsRefusedAfter old new command e
refused_after old new command e t r =
    let none = not_failure e r in
    let k = told_of old.replies new.replies old.seen (call_from old command) e (λ f. none (inl f)) t in
    let right = right_reply old.replies new.replies old.seen (call_from old command) e k none in
    record {
      base = k.1;
      at = k.0.at;
      found = k.2.0;
      later = (k.4, right.0);
      refused = refused_by (state_at k.1 (known_list new) k.0.at) command e r (met_so old.replies new.replies old.seen (call_from old command) e k right);
    }

pub refused_begin : (old new : ReplyView) (seen : ℕ) (call : Call) (e : Refusal) → Turned old new seen call e → e ≡ BadArguments → is_begin call.command ≡ true
refused_begin old new seen call e t is =
    let none = λ (f : IsFailure e). three_is_none (subst IsFailure is f) in
    let k = told_of old new seen call e (λ f. none (inl f)) t in
    let right = right_reply old new seen call e k none in
    begin_alone (state_at k.1 new.list k.0.at) call.command (met_so old new seen call e k right ∙ ap (λ x. Refused x) is)
