use Rattle.std.proofs.Common.{ap, ◌∙◌}
use Rattle.wm_expr.specs.Meanings.{holds}
use Rattle.wm_since.specs.Answers.{answer_to, question}
use Rattle.wm_share.specs.PublishedLists.{history}
use Rattle.wm_triggers.specs.Due.{run_by}
use Rattle.wm_triggers.specs.TriggerRuns.{chosen_term, is_for, last_started}
use Rattle.wm_workers.proofs.DueRuns.{due_by}
use Rattle.wm_workers.proofs.triggers.rounds.due_run.Goals as goal

pub returns-clause-due : goal.returns-clause-due
returns-clause-due g c =
    let h = history c.answer-answer.new.self.list in
    let runs = c.runs.result.now in
    c.run_of.ensures.value
    ∙ ap run_by c.in_ok-answer.ensures.answered
    ∙ ap (λ t. run_by (answer_to (holds t) h (question c.in_ok-query.query))) c.in_ok-query.ensures.test
    ∙ ap (λ q. run_by (answer_to (is_for runs) h q)) c.in_ok-query.ensures.question
    ∙ due_by c.args.one.now h (chosen_term runs) (last_started runs) c.runs.ensures.test c.runs.ensures.clock
