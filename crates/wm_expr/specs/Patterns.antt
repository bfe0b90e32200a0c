-- The patterns of `match`: which texts they fit.
use Rattle.std.specs.Prelude.{ℕ, Bool, true, false, not, ◌&&◌, ◌||◌, cond, List, [], ◌∷◌, length, nat_le, ◌==◌}
use Rattle.std.specs.List.{list_all, list_any}
use Rattle.std.specs.Str.{bytes_eq}
use Rattle.wm_names.specs.Paths.{components}

-- the list, and each list that is left where items are dropped from its front
abbrev pub tails : {X : Type 0} → List X → List (List X)
tails [] = [] ∷ []
tails (x ∷ xs) = (x ∷ xs) ∷ tails xs

abbrev pub is_empty : {X : Type 0} → List X → Bool
is_empty [] = true
is_empty (x ∷ xs) = false

-- there is a first item, which passes the one test, and the others pass the other
abbrev pub first_and_rest : {X : Type 0} → (X → Bool) → (List X → Bool) → List X → Bool
first_and_rest first rest [] = false
first_and_rest first rest (x ∷ xs) = first x && rest xs

-- what is left behind some run of items, perhaps an empty one, passes the test
abbrev pub behind_a_run : {X : Type 0} → (List X → Bool) → List X → Bool
behind_a_run rest xs = list_any rest (tails xs)

-- `?` is any byte, and another byte itself
abbrev pub fits_byte : ℕ → ℕ → Bool
fits_byte c b = (c == 63) || (c == b)

-- one component: `*` is any run of bytes
abbrev pub fits_component : List ℕ → List ℕ → Bool
fits_component [] text = is_empty text
fits_component (c ∷ pattern) text = cond (c == 42) (behind_a_run (fits_component pattern) text) (first_and_rest (fits_byte c) (fits_component pattern) text)

-- `**`
abbrev pub is_deep : List ℕ → Bool
is_deep part = bytes_eq part (42 ∷ 42 ∷ [])

-- `**` is one or more components where it stands last, and any number elsewhere
abbrev pub fits_components : List (List ℕ) → List (List ℕ) → Bool
fits_components [] parts = is_empty parts
fits_components (p ∷ []) parts = cond (is_deep p) (not (is_empty parts)) (first_and_rest (fits_component p) is_empty parts)
fits_components (p ∷ q ∷ pattern) parts =
    cond (is_deep p) (behind_a_run (fits_components (q ∷ pattern)) parts) (first_and_rest (fits_component p) (fits_components (q ∷ pattern)) parts)

-- both are cut at each slash
abbrev pub fits : List ℕ → List ℕ → Bool
fits pattern text = fits_components (components pattern) (components text)

-- the most bytes of a pattern
abbrev pub max_pattern : ℕ
max_pattern = 1024

-- not too long, with no `[` and no backslash
abbrev pub is_pattern : List ℕ → Bool
is_pattern text = nat_le (length text) max_pattern && list_all (λ b. not ((b == 91) || (b == 92))) text
