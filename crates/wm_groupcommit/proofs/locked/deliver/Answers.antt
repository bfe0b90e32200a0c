use Rattle.std.proofs.Common.{◌≡◌, Some, [], ◌∷◌, set, get_or, sym, ap, ◌∙◌, subst, arith, append-nil}
use Rattle.wm_groupcommit.specs.LockedState.{HaveGiven, delivery_of}
use Rattle.wm_groupcommit.specs.ReplyQueues.{IsLater, with_given}
use Rattle.wm_groupcommit.specs.declared.locked.deliveries.Delivery.{Delivery}
use Rattle.wm_groupcommit.specs.declared.locked.deliveries.ReplyView.{ReplyView}
use Rattle.wm_groupcommit.proofs.Giving.{given_behind, given_set}
use Rattle.wm_groupcommit.proofs.Locking.{AllLater-get, AllLater-set, AreNumbered-get, AreNumbered-set}
use Rattle.wm_groupcommit.proofs.locked.deliver.Goals as goal

pub hand-requires-clause-later : goal.hand-requires-clause-later
hand-requires-clause-later g c =
    let v = c.index_mut-end.result.now in
    let e = AllLater-get c.args.ends.now.items c.args.answer.call.seat v (Some c.args.book.now.base) c.args.book.now.list (omega (arith, c.if-at-len.true, c.len.ensures, c.args.ends.now.ok)) c.requires.later in
    rw (c.seen-seen.ensures.0, c.seen-seen.ensures.1) (subst (λ u. IsLater u (Some c.args.book.now.base) c.args.book.now.list) (sym c.index_mut-end.ensures.value) e)

pub hand-requires-clause-own : goal.hand-requires-clause-own
hand-requires-clause-own g c =
    let v = c.index_mut-end.result.now in
    let e = AreNumbered-get c.args.ends.now.items c.args.answer.call.seat v (omega (arith, c.if-at-len.true, c.len.ensures, c.args.ends.now.ok)) c.requires.numbered in
    ap (λ (u : ReplyView). u.seat) c.index_mut-end.ensures.value ∙ e

pub hand-requires-clause-shown : goal.hand-requires-clause-shown
hand-requires-clause-shown g c = rw (c.seen-seen.ensures.0, c.seen-seen.ensures.1) c.requires.shown

pub returns-then-at-len-clause-later : goal.returns-then-at-len-clause-later
returns-then-at-len-clause-later g c =
    let v = c.index_mut-end.result.now in
    let t = c.seen-seen.result in
    let x : Delivery = record { answer = c.args.answer; seen = t; registry = c.args.registry } in
    let base = c.args.book.now.base in
    let list = c.args.book.now.list in
    let is : IsLater (with_given v x) (Some base) list = (ap (λ b. Some b) (sym c.seen-seen.ensures.0), ([], sym c.seen-seen.ensures.1 ∙ sym (append-nil t.value.list))) in
    AllLater-set c.args.ends.now.items c.args.answer.call.seat c.hand.new.self (Some base) list (subst (λ u. IsLater u (Some base) list) (sym c.hand.ensures) is) c.requires.later

pub returns-then-at-len-clause-numbered : goal.returns-then-at-len-clause-numbered
returns-then-at-len-clause-numbered g c =
    let v = c.index_mut-end.result.now in
    let same = ap (λ (u : ReplyView). u.seat) c.hand.ensures in
    AreNumbered-set 0 c.args.ends.now.items c.args.answer.call.seat v c.hand.new.self (same ∙ ap (λ (u : ReplyView). u.seat) c.index_mut-end.ensures.value) c.requires.numbered

pub returns-then-at-len-clause-given : goal.returns-then-at-len-clause-given
returns-then-at-len-clause-given g c =
    let v = c.index_mut-end.result.now in
    let t = c.seen-seen.result in
    let x : Delivery = record { answer = c.args.answer; seen = t; registry = c.args.registry } in
    let y = delivery_of c.args.book.now.base c.args.book.now.list c.args.registry c.args.answer in
    let vs = c.args.ends.now.items in
    let k = c.args.answer.call.seat in
    let told : x ≡ y = λ i. record { answer = c.args.answer; seen = record { marker = record {}; value = record { base = c.seen-seen.ensures.0 i; list = c.seen-seen.ensures.1 i } }; registry = c.args.registry } in
    let is : c.hand.new.self ≡ with_given (get_or vs k v) y = c.hand.ensures ∙ ap (λ u. with_given u x) c.index_mut-end.ensures.value ∙ ap (λ d. with_given (get_or vs k v) d) told in
    subst (λ u. HaveGiven 0 (y ∷ []) vs (set vs k u)) (sym is) (given_set 0 k y v vs (omega (arith, c.if-at-len.true, c.len.ensures, c.args.ends.now.ok)) (omega arith))

pub returns-else-at-len-clause-given : goal.returns-else-at-len-clause-given
returns-else-at-len-clause-given g c =
    given_behind 0 (delivery_of c.args.book.now.base c.args.book.now.list c.args.registry c.args.answer) c.args.ends.now.items (omega (arith, c.if-at-len.false, c.len.ensures, c.args.ends.now.ok))
