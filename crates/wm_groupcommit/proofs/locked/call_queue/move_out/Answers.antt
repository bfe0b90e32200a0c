use Rattle.std.proofs.Common.{◌≡◌, ◌+◌, [], ◌∷◌, ◌++◌, length, refl, sym, ap, ◌∙◌, subst, arith, length-append, append_assoc, append-nil}
use Rattle.crossbeam_queue.specs.SegBatches.{Holds}
use Rattle.wm_groupcommit.proofs.Merging.{admits, first_of_some, none_of}
use Rattle.wm_groupcommit.proofs.locked.call_queue.move_out.Goals as goal

pub loop-i-init : goal.loop-i-init
loop-i-init g c = record {
  queue = (c.requires.pass, refl, refl);
  room = (refl, omega (arith, ap length c.requires.room.0, c.args.calls.now.ok));
  rest = λ xs h. (xs, ap (λ l. l ++ xs) (sym c.requires.room.0), h);
}

pub next_of-call-requires : goal.next_of-call-requires
next_of-call-requires g c =
    let r = c.requires.batch.1 in
    let d = c.loop-i.invariant.rest r.0 r.1 in
    let all : length r.0 ≡ length c.loop-i.calls.items + length d.0 = ap length d.1 ∙ length-append c.loop-i.calls.items d.0 in
    let f = first_of_some d.0 (omega (arith, all, r.1.8, c.loop-i.invariant.room.1, c.loop-i-test.true, c.len-count.ensures, c.loop-i.calls.ok)) in
    (c.loop-i.invariant.queue.0, admits, (f.0, f.1, subst (λ l. Holds c.args.queue.now c.loop-i.pass c.loop-i.batch l) f.2 d.2))

pub push_reserved-requires : goal.push_reserved-requires
push_reserved-requires g c = omega (arith, c.loop-i.invariant.room.0, c.loop-i.invariant.room.1, c.requires.room.1, c.requires.batch.0, c.loop-i-test.true, c.len-count.ensures)

pub loop-i-preserved : goal.loop-i-preserved
loop-i-preserved g c = record {
  queue = (c.next_of-call.ensures.queue.0, c.next_of-call.ensures.queue.1 ∙ c.loop-i.invariant.queue.1, c.next_of-call.ensures.queue.2 ∙ c.loop-i.invariant.queue.2);
  room = (c.push_reserved.ensures.capacity ∙ c.loop-i.invariant.room.0, omega (arith, c.push_reserved.ensures.len, c.loop-i.invariant.room.1));
  rest = λ xs h.
      let d = c.loop-i.invariant.rest xs h in
      let all : length xs ≡ length c.loop-i.calls.items + length d.0 = ap length d.1 ∙ length-append c.loop-i.calls.items d.0 in
      let f = first_of_some d.0 (omega (arith, all, h.8, c.loop-i.invariant.room.1, c.loop-i-test.true, c.len-count.ensures, c.loop-i.calls.ok)) in
      let got = c.next_of-call.ensures.item f.0 f.1 (subst (λ l. Holds c.args.queue.now c.loop-i.pass c.loop-i.batch l) f.2 d.2) in
      let x = c.next_of-call.result in (
        f.1,
        d.1 ∙ ap (λ l. c.loop-i.calls.items ++ l) (f.2 ∙ ap (λ y. y ∷ f.1) (sym got.0)) ∙ sym (append_assoc c.loop-i.calls.items (x ∷ []) f.1) ∙ ap (λ l. l ++ f.1) (sym c.push_reserved.ensures.items),
        got.1,
      );
}

pub finish-requires : goal.finish-requires
finish-requires g c =
    let r = c.requires.batch.1 in
    let d = c.loop-i.invariant.rest r.0 r.1 in
    let all : length r.0 ≡ length c.loop-i.calls.items + length d.0 = ap length d.1 ∙ length-append c.loop-i.calls.items d.0 in
    omega (arith, all, r.1.8, d.2.8, c.loop-i.invariant.room.1, c.loop-i-test.false, c.len-count.ensures, c.loop-i.calls.ok)

pub returns-clause-moved : goal.returns-clause-moved
returns-clause-moved g c = λ xs h.
    let d = c.loop-i.invariant.rest xs h in
    let all : length xs ≡ length c.loop-i.calls.items + length d.0 = ap length d.1 ∙ length-append c.loop-i.calls.items d.0 in
    let none = none_of d.0 (omega (arith, all, h.8, c.loop-i.invariant.room.1, c.loop-i-test.false, c.len-count.ensures, c.loop-i.calls.ok)) in
    sym (d.1 ∙ ap (λ l. c.loop-i.calls.items ++ l) none ∙ append-nil c.loop-i.calls.items)
