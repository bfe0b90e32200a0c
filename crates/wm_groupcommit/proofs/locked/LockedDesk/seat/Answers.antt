use Rattle.std.proofs.Common.{◌≡◌, Some, [], ◌∷◌, ◌++◌, length, refl, sym, ap, ◌∙◌, subst, arith, length-append}
use Rattle.wm_groupcommit.specs.Counting.{IsCounted}
use Rattle.wm_groupcommit.specs.ReplyQueues.{IsLater}
use Rattle.wm_groupcommit.specs.LockedState.{AllLater, AreNumbered}
use Rattle.wm_groupcommit.specs.declared.locked.deliveries.ReplyView.{ReplyView}
use Rattle.wm_groupcommit.proofs.Locking.{AllLater-push, AreNumbered-push}
use Rattle.wm_groupcommit.proofs.Counted.{counted_seat}
use Rattle.wm_groupcommit.proofs.locked.LockedDesk.seat.Goals as goal

pub invariant_of-self-then-is_err-2 : goal.invariant_of-self-then-is_err-2
invariant_of-self-then-is_err-2 g c = rw (c.reserve.ensures.items, c.reserve-2.ensures.items) c.self.invariant

pub invariant_of-self-in_default : goal.invariant_of-self-in_default
invariant_of-self-in_default g c = rw (c.reserve.ensures.items, c.reserve-2.ensures.items) c.self.invariant

pub invariant_of-self-2 : goal.invariant_of-self-2
invariant_of-self-2 g c =
    let base = c.self.inside.book.base in
    let list = c.self.inside.book.list in
    let end = c.in-Ok.end in
    let vs = c.push_reserved.ensures.items ∙ ap (λ l. l ++ end ∷ []) c.reserve.ensures.items in
    let ks = c.push_reserved-2.ensures.items ∙ ap (λ l. l ++ 0 ∷ []) c.reserve-2.ensures.items in
    let is = subst (λ v. IsLater v (Some base) list) (sym c.in-Ok.ensures.0) (tt, (list, refl)) in
    let own : end.seat ≡ Some (length c.self.inside.ends.items) = ap (λ (v : ReplyView). v.seat) c.in-Ok.ensures.0 ∙ ap Some (omega (arith, c.len-number.ensures, c.reserve.new.self.ok, ap length c.reserve.ensures.items)) in (
      subst (λ l. AllLater l (Some base) list) (sym vs) (AllLater-push c.self.inside.ends.items end (Some base) list is c.self.invariant.0),
      subst (λ l. IsCounted l list) (sym ks) (counted_seat c.self.inside.counts.items list c.self.invariant.1),
      subst (λ l. AreNumbered 0 l) (sym vs) (AreNumbered-push c.self.inside.ends.items end own c.self.invariant.2),
      omega (arith, ap length ks, length-append c.self.inside.counts.items (0 ∷ []), ap length vs, length-append c.self.inside.ends.items (end ∷ []), c.self.invariant.3),
    )
