-- Questions of the files of a root.
use Rattle.std.specs.Prelude.{Bool, true, Option, Some, None, Result, Ok, Err, if◌then◌else◌}
use Rattle.wm_disk.specs.declared.refusal.Refusal.{Refusal}
use Rattle.wm_disk.specs.declared.refusal.Refusal.TheVariants.{NotWatched, NotReady, TooMany}
use Rattle.wm_clock.specs.declared.clock_spec.ClockSpec.{ClockSpec}
use Rattle.wm_clock.specs.declared.clock_spec.ClockSpec.TheVariants.{Clock, Another, Cursor, Seconds}
use Rattle.wm_expr.specs.Meanings.{holds}
use Rattle.wm_since.specs.declared.query.Since.{Since}
use Rattle.wm_since.specs.declared.query.Since.TheVariants as since
use Rattle.wm_since.specs.declared.query.Since.TheVariants.{Moment}
use Rattle.wm_since.specs.Answers.{Question, answer_by, from_clock}
use Rattle.wm_since.specs.Cursors.{CursorList, cursor_at, has_room}
use Rattle.wm_since.specs.declared.query.Answer.{Answer}
use Rattle.wm_lines.specs.declared.query.Inquiry.{Inquiry}
use Rattle.wm_session.specs.declared.local.root_views.RootView.{RootView}

-- since when is asked: from nowhere by a clock of another instance, and by a cursor that isn't there
abbrev pub since_point : Option ClockSpec → CursorList → Option Since
since_point None cursors = None
since_point (Some (Clock c)) cursors = Some (since.Clock c)
since_point (Some Another) cursors = None
since_point (Some (Cursor name)) cursors = from_clock (cursor_at name cursors)
since_point (Some (Seconds s)) cursors = Some (Moment s)

-- there is room for the cursor by which is asked
abbrev pub has_place : Option ClockSpec → CursorList → Bool
has_place (Some (Cursor name)) cursors = has_room name cursors
has_place _ cursors = true

abbrev pub question_in : Inquiry → CursorList → Question
question_in q cursors = record { since = since_point q.since cursors; empty_on_fresh = q.empty_on_fresh }

-- the answer, or why there is none
abbrev pub inquired : Option RootView → Inquiry → Result Answer Refusal
inquired None q = Err NotWatched
inquired (Some root) q =
    if root.view.ready
    then (if has_place q.since root.cursors then Ok (answer_by (holds q.expression) root.view (question_in q root.cursors)) else Err TooMany)
    else Err NotReady
