-- The named cursors of a root: each name once, with the clock at which it stands.
use Rattle.std.specs.Prelude.{◌≡◌, ℕ, Bool, false, ◌||◌, List, [], ◌∷◌, length, nat_lt, Option, Some, is_some, if◌then◌else◌}
use Rattle.std.specs.Map.{lookup}
use Rattle.std.specs.Str.{bytes_eq}
use Rattle.wm_clock.specs.declared.clock_id.ClockId.{ClockId}

abbrev pub CursorList : Type 0
CursorList = List (List ℕ × ClockId)

-- the clock at which the cursor stands
abbrev pub cursor_at : List ℕ → CursorList → Option ClockId
cursor_at name cursors = lookup (bytes_eq name) cursors

-- the cursor's clock replaced in its place, and a new cursor put last
abbrev pub moved_to : List ℕ → ClockId → CursorList → CursorList
moved_to name clock [] = (name, clock) ∷ []
moved_to name clock (c ∷ cursors) = if bytes_eq name c.0 then (c.0, clock) ∷ cursors else c ∷ moved_to name clock cursors

-- the most cursors of a root
abbrev pub max_cursors : ℕ
max_cursors = 256

-- the cursor is there, or there are fewer than the most
abbrev pub has_room : List ℕ → CursorList → Bool
has_room name cursors = is_some (cursor_at name cursors) || nat_lt (length cursors) max_cursors

-- ---- laws

-- a cursor that is moved stands where it was moved to
abbrev pub IsMoved : Type 0
IsMoved = (name : List ℕ) (clock : ClockId) (cursors : CursorList) → cursor_at name (moved_to name clock cursors) ≡ Some clock

-- and the others stay
abbrev pub OthersStay : Type 0
OthersStay = (name other : List ℕ) (clock : ClockId) (cursors : CursorList) → bytes_eq name other ≡ false → cursor_at other (moved_to name clock cursors) ≡ cursor_at other cursors
