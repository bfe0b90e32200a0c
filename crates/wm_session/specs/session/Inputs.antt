-- The lines of an input, and reading one.
use Rattle.std.specs.Prelude.{◌≡◌, ◌≢◌, ◌⊎◌, ◌<◌, ℕ, ◌+◌, List, [], ◌∷◌, ◌++◌, length, take, drop, Bool, true, false, ◌==◌, if◌then◌else◌}
use Rattle.std.specs.Io.BufRead.{take_through, drop_through}
use Rattle.wm_lines.specs.Lines.{max_line}

-- x in front of the first line
abbrev pub in_front : ℕ → List (List ℕ) → List (List ℕ)
in_front x [] = (x ∷ []) ∷ []
in_front x (line ∷ lines) = (x ∷ line) ∷ lines

-- the lines of an input, each with its newline; the last may lack it
abbrev pub lines_of : List ℕ → List (List ℕ)
lines_of [] = []
lines_of (x ∷ xs) = if x == 10 then (x ∷ []) ∷ lines_of xs else in_front x (lines_of xs)

-- ---- for private clauses

-- what is kept of a line: a byte more than a line may have
abbrev pub max_kept : ℕ
max_kept = max_line + 1

-- the first n bytes end with the first newline, whatever comes behind them; or no newline is there
abbrev pub SplitsAt : List ℕ → ℕ → Bool → Type 0
SplitsAt bytes n true = (0 < n) × ((more : List ℕ) → (take_through 10 (bytes ++ more) ≡ take n bytes) × (drop_through 10 (bytes ++ more) ≡ drop n bytes ++ more))
SplitsAt bytes n false = (n ≡ length bytes) × ((more : List ℕ) → (take_through 10 (bytes ++ more) ≡ bytes ++ take_through 10 more) × (drop_through 10 (bytes ++ more) ≡ drop_through 10 more))

-- as much of the part as may be kept was appended, unless the line is lost
abbrev pub KeepsPart : List ℕ → List ℕ → Bool → List ℕ → Bool → Type 0
KeepsPart old part was_lost new true = (was_lost ≡ true) ⊎ (part ≢ [])
KeepsPart old part was_lost new false = (was_lost ≡ false) × (new ≡ take max_kept (old ++ part))
