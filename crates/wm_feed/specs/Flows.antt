-- Bytes that come in pieces, and the records in them.
use Rattle.std.specs.Prelude.{◌≡◌, ℕ, ◌-◌, ◌≤◌, ◌++◌, List, [], ◌∷◌, length, Some, None}
use Rattle.memchr.specs.Find.{FindsNeedle}

-- how a record ends: with a zero byte and a newline, which stand together nowhere else
abbrev pub record_end : List ℕ
record_end = 0 ∷ 10 ∷ []

-- the mark stands nowhere in the bytes
abbrev pub StandsNowhere : List ℕ → List ℕ → Type 0
StandsNowhere mark bytes = FindsNeedle bytes mark 0 None

-- the front is all through the first mark, and the rest stands behind it
abbrev pub IsSplitBehind : List ℕ → List ℕ → List ℕ → List ℕ → Type 0
IsSplitBehind mark bytes front rest = (bytes ≡ front ++ rest) × (length mark ≤ length front) × FindsNeedle bytes mark 0 (Some (length front - length mark))
