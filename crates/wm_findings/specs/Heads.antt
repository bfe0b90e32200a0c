-- As what a file begins: a gate, `WMSTATE`, the version in four bytes, and the gate of a file that was migrated.
use Rattle.std.specs.Prelude.{◌==◌, ◌++◌, ◌∷◌, ℕ, Bool, List, [], codes, slice_index_or, if◌then◌else◌}
use Rattle.std.specs.List.{starts_with}
use Rattle.wm_explain.specs.declared.found.Head.{Head}
use Rattle.wm_explain.specs.declared.found.Head.TheVariants.{Foreign, VersionOne, Retired, VersionTwo}

-- these bytes stand behind the first one
abbrev pub has_behind_gate : (word bytes : List ℕ) → Bool
has_behind_gate word [] = starts_with (λ x y. x == y) [] word
has_behind_gate word (gate ∷ bytes) = starts_with (λ x y. x == y) bytes word

abbrev pub state_word : List ℕ
state_word = codes "WMSTATE"

abbrev pub version_one : List ℕ
version_one = state_word ++ (0 ∷ 0 ∷ 0 ∷ 1 ∷ [])

-- what a file of these first bytes is
abbrev pub head_in : List ℕ → Head
head_in bytes =
    if has_behind_gate version_one bytes then (if slice_index_or bytes 12 0 == 0 then VersionOne else Retired)
    else (if has_behind_gate state_word bytes then VersionTwo else Foreign)
