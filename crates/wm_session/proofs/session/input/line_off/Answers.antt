use Rattle.std.proofs.Common.{◌≡◌, ◌<◌, rules, length}
use Rattle.wm_session.proofs.lemmas.session.InputLemmas.{went_on, closed_kept, closed_lost, ended_kept, ended_lost, ended_none, empty, not_empty}
use Rattle.wm_session.proofs.session.input.line_off.Goals as goal

pub returns-in-Closed : goal.returns-in-Closed
returns-in-Closed g c = λ input e.
    closed_lost input _ _ _ _ _ _ (c.loop.invariant.1 input e) (rw c.in-Closed.is at c.in_ok-part.ensures.taken)

pub returns-in-Closed-2 : goal.returns-in-Closed-2
returns-in-Closed-2 g c = λ input e.
    closed_kept input _ _ _ _ _ _ (c.loop.invariant.1 input e) (rw c.in-Closed.is at c.in_ok-part.ensures.taken) c.if-is_lost.false

pub returns-in-End : goal.returns-in-End
returns-in-End g c = λ input e.
    ended_lost input _ _ _ _ _ _ (c.loop.invariant.1 input e) (rw c.in-End.is at c.in_ok-part.ensures.taken) c.if-is_lost-2.true

pub returns-in-End-2 : goal.returns-in-End-2
returns-in-End-2 g c = λ input e.
    let none : length c.take_part.new.line.items ≡ 0 = search rules in
    ended_none input _ _ _ _ _ _ (c.loop.invariant.1 input e) (rw c.in-End.is at c.in_ok-part.ensures.taken) c.if-is_lost-2.false (empty c.take_part.new.line.items none)

pub returns-in-End-3 : goal.returns-in-End-3
returns-in-End-3 g c = λ input e.
    let some : 0 < length c.take_part.new.line.items = search rules in
    ended_kept input _ _ _ _ _ _ (c.loop.invariant.1 input e) (rw c.in-End.is at c.in_ok-part.ensures.taken) c.if-is_lost-2.false (λ none. not_empty c.take_part.new.line.items some none)

pub loop-preserved : goal.loop-preserved
loop-preserved g c = (
  search rules,
  λ input e. went_on input _ _ _ _ _ _ (c.loop.invariant.1 input e) (rw c.in-Open.is at c.in_ok-part.ensures.taken),
)
