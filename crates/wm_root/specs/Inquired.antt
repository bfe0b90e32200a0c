-- What a question of a root leaves: what is appended, and the list that the viewer has then seen.
use Rattle.std.specs.Prelude.{◌≡◌, ◌⊎◌, ◌++◌, ℕ, Bool, true, false, List, Option, None, Some, Result, Ok, Err}
use Rattle.wm_disk.specs.declared.refusal.Refusal.{Refusal}
use Rattle.wm_disk.specs.declared.refusal.Refusal.TheVariants.{NoMemory, NoPlace, NotReady, TooMany}
use Rattle.wm_clock.specs.declared.clock_spec.ClockSpec.{ClockSpec}
use Rattle.wm_clock.specs.declared.clock_spec.ClockSpec.TheVariants.{Clock, Another, Cursor, Seconds}
use Rattle.wm_expr.specs.Meanings.{holds}
use Rattle.wm_expr.specs.Terms.{Term}
use Rattle.wm_view.specs.Histories.{is_ready}
use Rattle.wm_since.specs.declared.query.Since.{Since}
use Rattle.wm_since.specs.declared.field.Field.{Field}
use Rattle.wm_since.specs.Answers.{Question, answer_to, from_clock}
use Rattle.wm_since.specs.Cursors.{CursorList, cursor_at, has_room}
use Rattle.wm_lines.specs.Replies.{line_text, query_reply}
use Rattle.wm_lines.specs.declared.query.Inquiry.{Inquiry}
use Rattle.wm_share.specs.PublishedLists.{ViewerState, disconnected, history}
use Rattle.wm_root.specs.Starts.{start_named}

-- where the question starts, as cursors are so
abbrev pub start_among : Option ClockSpec → CursorList → Option Since
start_among (Some (Cursor name)) cursors = from_clock (cursor_at name cursors)
start_among (Some (Clock clock)) cursors = start_named (Some (Clock clock))
start_among (Some (Seconds moment)) cursors = start_named (Some (Seconds moment))
start_among (Some Another) cursors = start_named (Some Another)
start_among None cursors = start_named None

-- the cursor that the question names, if it names one, is there or may be made
abbrev pub has_room_among : Option ClockSpec → CursorList → Bool
has_room_among (Some (Cursor name)) cursors = has_room name cursors
has_room_among (Some (Clock clock)) cursors = true
has_room_among (Some (Seconds moment)) cursors = true
has_room_among (Some Another) cursors = true
has_room_among None cursors = true

abbrev pub question_among : Inquiry → CursorList → Question
question_among inquiry cursors = record { since = start_among inquiry.since cursors; empty_on_fresh = inquiry.empty_on_fresh }

-- the line of an answer, on the history of the list that the viewer has then seen last
abbrev pub answer_line : List Field → Term → Question → ViewerState → List ℕ
answer_line fields test asked viewer = line_text (query_reply fields (answer_to (holds test) (history viewer.list) asked))

abbrev pub answer_bytes : Inquiry → CursorList → ViewerState → List ℕ
answer_bytes inquiry cursors viewer = answer_line inquiry.fields inquiry.expression (question_among inquiry cursors) viewer

-- why a viewer answers nothing: memory ran out, the keeper is gone, or the view isn't ready
abbrev pub IsViewRefused : ViewerState → ViewerState → Refusal → Type 0
IsViewRefused old new e = (e ≡ NoMemory) ⊎ ((e ≡ NoPlace) × (new ≡ disconnected old)) ⊎ ((e ≡ NotReady) × (is_ready (history new.list) ≡ false))

-- why a question has no answer: the viewer answers nothing, or a new cursor is one too many
abbrev pub IsRefusedBy : (has_room : Bool) → ViewerState → ViewerState → Refusal → Type 0
IsRefusedBy has_room old new e =
    (e ≡ NoMemory) ⊎ ((e ≡ NoPlace) × (new ≡ disconnected old)) ⊎ ((e ≡ NotReady) × (is_ready (history new.list) ≡ false))
    ⊎ ((e ≡ TooMany) × (is_ready (history new.list) ≡ true) × (has_room ≡ false))

-- why it has none as cursors are so
abbrev pub IsUnanswered : Inquiry → CursorList → ViewerState → ViewerState → Refusal → Type 0
IsUnanswered inquiry cursors old new e = IsRefusedBy (has_room_among inquiry.since cursors) old new e

-- The answer is appended as cursors are so; or nothing is.
abbrev pub IsInquired : {A : Type 0} → Inquiry → CursorList → ViewerState → List ℕ → Result A Refusal → ViewerState → List ℕ → Type 0
IsInquired inquiry cursors old before (Ok done) new after = (is_ready (history new.list) ≡ true) × (has_room_among inquiry.since cursors ≡ true) × (after ≡ before ++ answer_bytes inquiry cursors new)
IsInquired inquiry cursors old before (Err e) new after = (after ≡ before) × IsUnanswered inquiry cursors old new e
