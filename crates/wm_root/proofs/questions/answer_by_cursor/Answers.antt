use Rattle.std.proofs.Common.{◌≡◌, ◌∙◌, ◌++◌, ap, subst}
use Rattle.wm_since.specs.Answers.{from_clock}
use Rattle.wm_root.specs.Inquired.{answer_line}
use Rattle.wm_root.proofs.questions.answer_by_cursor.Goals as goal

-- the question is since the cursor's clock
pub returns-clause-answered : goal.returns-clause-answered
returns-clause-answered g c =
    subst
    (λ s. c.answer_with_room.new.out.items ≡ c.args.out.now.items ++ answer_line c.args.asked.fields c.args.asked.query.test (record { since = s; empty_on_fresh = c.args.asked.query.empty_on_fresh }) c.answer_with_room.new.viewer)
    (c.from_clock-asked.ensures ∙ ap from_clock c.clock.ensures)
    c.in_ok-clock.ensures.answered
