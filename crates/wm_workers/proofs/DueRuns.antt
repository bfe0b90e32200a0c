-- Which run is due, by what a definition's runs ask.
use Rattle.std.proofs.Common.{◌≡◌, Option, Some, sym, ap, ◌∙◌}
use Rattle.std.specs.Prelude.{option_and_then}
use Rattle.wm_clock.specs.declared.clock_id.ClockId.{ClockId}
use Rattle.wm_expr.specs.Meanings.{holds}
use Rattle.wm_expr.specs.Terms.{Term}
use Rattle.wm_view.specs.Histories.{History}
use Rattle.wm_since.specs.Answers.{answer_to}
use Rattle.wm_triggers.specs.Due.{run_by, term_for}
use Rattle.wm_triggers.specs.KeptRuns.{KeptRuns}
use Rattle.wm_workers.specs.TriggerWork.{due_for, since_last}

-- a run by the term that the trigger keeps, and since the clock that is kept
pub due_by : (one : KeptRuns) (h : History) (chosen : Term) (last : Option ClockId) → term_for one.trigger ≡ Some chosen → last ≡ one.last
    → run_by (answer_to (holds chosen) h (since_last last)) ≡ due_for one h
due_by one h chosen last kept clock =
    ap (λ l. run_by (answer_to (holds chosen) h (since_last l))) clock
    ∙ ap (option_and_then (λ term. run_by (answer_to (holds term) h (since_last one.last)))) (sym kept)
