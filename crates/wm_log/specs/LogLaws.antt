-- No text is let through twice in a second, as long as the time doesn't go back.
use Rattle.std.specs.Prelude.{◌≡◌, ◌≤◌, ◌&&◌, ◌∷◌, ◌==◌, ℕ, Bool, false, List, [], if◌then◌else◌}
use Rattle.std.specs.List.{list_any}
use Rattle.std.specs.Str.{bytes_eq}
use Rattle.wm_log.specs.LogLimits.{LimitState, after_logging, passes_limit}

-- of texts, each with its second, those that are let through
abbrev pub let_through : List (ℕ × List ℕ) → LimitState → List (ℕ × List ℕ)
let_through [] state = []
let_through (line ∷ lines) state =
    if passes_limit line.0 line.1 state
    then line ∷ let_through lines (after_logging line.0 line.1 state)
    else let_through lines (after_logging line.0 line.1 state)

-- the times don't go back, from this second on
abbrev pub GoesOn : ℕ → List (ℕ × List ℕ) → Type 0
GoesOn second [] = Unit {0}
GoesOn second (line ∷ lines) = (second ≤ line.0) × GoesOn line.0 lines

-- the second and the text are equal
abbrev pub are_alike : ℕ × List ℕ → ℕ × List ℕ → Bool
are_alike a b = (a.0 == b.0) && bytes_eq a.1 b.1

-- no two of these are alike
abbrev pub NoneTwice : List (ℕ × List ℕ) → Type 0
NoneTwice [] = Unit {0}
NoneTwice (line ∷ lines) = (list_any (are_alike line) lines ≡ false) × NoneTwice lines

abbrev pub OneLineASecond : Type 0
OneLineASecond = (lines : List (ℕ × List ℕ)) → GoesOn 0 lines → NoneTwice (let_through lines (record { second = 0; texts = [] }))
