-- An answer that was written, and the cursor that moves by it. For private clauses.
use Rattle.std.specs.Prelude.{◌≡◌, ℕ, List, ◌++◌, Option, Some, None, Result, Ok}
use Rattle.wm_disk.specs.declared.refusal.Refusal.{Refusal}
use Rattle.wm_clock.specs.declared.clock_id.ClockId.{ClockId}
use Rattle.wm_clock.specs.declared.clock_spec.ClockSpec.{ClockSpec}
use Rattle.wm_clock.specs.declared.clock_spec.ClockSpec.TheVariants.{Cursor}
use Rattle.wm_lines.specs.declared.query.Inquiry.{Inquiry}
use Rattle.wm_lines.specs.Replies.{line_text, query_reply}
use Rattle.wm_since.specs.declared.query.Answer.{Answer}

-- the cursor by which is asked moves to the answer's clock
abbrev pub cursor_move : Option ClockSpec → ClockId → Option (List ℕ × ClockId)
cursor_move (Some (Cursor name)) clock = Some (name, clock)
cursor_move _ clock = None

-- the answer was written, and this cursor is to move
abbrev pub WritesAnswer : Result Answer Refusal → Inquiry → Option (List ℕ × ClockId) → List ℕ → List ℕ → Type 0
WritesAnswer answer q moves old new = (a : Answer) × (answer ≡ Ok a) × (moves ≡ cursor_move q.since a.clock) × (new ≡ old ++ line_text (query_reply q.fields a))
