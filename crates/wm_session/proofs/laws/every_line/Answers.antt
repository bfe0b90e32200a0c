use Rattle.std.proofs.Common.{cond, sym, ap, ◌∙◌, None, Ok, Err}
use Rattle.wm_disk.specs.declared.refusal.Refusal.TheVariants.{NotReady, TooMany}
use Rattle.wm_expr.specs.Meanings.{holds}
use Rattle.wm_since.specs.Answers.{answer_by, question}
use Rattle.wm_subs.specs.Subscribers.{if_due}
use Rattle.wm_session.specs.session.Inquiries.{has_place, question_in}
use Rattle.wm_session.specs.session.Watched.{unless}
use Rattle.wm_view.specs.Histories.{is_ready}
use Rattle.wm_view.specs.Summaries.{summary}
use Rattle.wm_session.proofs.lemmas.session.HistoryLemmas.{begun_are, line_are}
use Rattle.wm_session.proofs.laws.every_line.Goals as goal

pub returns-clause-operated : goal.returns-clause-operated
returns-clause-operated c = λ h cursors op made i. unless (sym (c.every_operation.ensures.refused h op made) i) (record { view = sym (c.every_operation.ensures.a_function h op made) i; cursors = cursors })

pub returns-clause-answered : goal.returns-clause-answered
returns-clause-answered c = λ h cursors q made ready place.
    (λ i. cond (ready i) (cond (place i) (Ok (answer_by (holds q.expression) (summary h) (question_in q cursors))) (Err TooMany)) (Err NotReady))
    ∙ ap (λ a. Ok a) (c.every_answer.ensures (holds q.expression) h (question_in q cursors) made)

pub returns-clause-unready : goal.returns-clause-unready
returns-clause-unready c = λ h cursors q made unready i.
    cond (unready i) (cond (has_place q.since cursors) (Ok (answer_by (holds q.expression) (summary h) (question_in q cursors))) (Err TooMany)) (Err NotReady)

pub returns-clause-no_place : goal.returns-clause-no_place
returns-clause-no_place c = λ h cursors q made ready place i.
    cond (ready i) (cond (place i) (Ok (answer_by (holds q.expression) (summary h) (question_in q cursors))) (Err TooMany)) (Err NotReady)

pub returns-clause-due : goal.returns-clause-due
returns-clause-due c = λ h cursors s made. ap (λ a. cond (is_ready h) (if_due s a) None) (c.every_answer.ensures (holds s.query.test) h (question s.query) made)

pub returns-clause-begun : goal.returns-clause-begun
returns-clause-begun c = begun_are

pub returns-clause-stays : goal.returns-clause-stays
returns-clause-stays c = line_are (λ h cursors op made i. unless (sym (c.every_operation.ensures.refused h op made) i) (record { view = sym (c.every_operation.ensures.a_function h op made) i; cursors = cursors })) c.every_operation.ensures.made
