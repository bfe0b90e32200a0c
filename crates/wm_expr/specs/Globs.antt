-- For private clauses: what a pattern and a text come to, prefix against prefix: a star, an end of both, or neither.
use Rattle.std.specs.Prelude.{ℕ, cond, List, [], ◌∷◌, ◌==◌, Option, Some, None, option_map}
use Rattle.std.specs.Borrow.{Bor}
use Rattle.wm_names.specs.Paths.{components}
use Rattle.wm_expr.specs.Patterns.{fits_byte, fits_component, is_deep}
use Rattle.wm_expr.specs.declared.step.Step.{Step}
use Rattle.wm_expr.specs.declared.step.Step.TheVariants.{Star, Done, Mismatch}

-- at a star, with the pattern behind it and the text that is left there
pub data UntilStar (X : Type 0) : Type 0 where
  AtStar : (pattern text : List X) → UntilStar X
  AtEnd : UntilStar X
  Differs : UntilStar X

abbrev pub until_star_of : Step (Bor (List ℕ)) → UntilStar ℕ
until_star_of (Star p t) = AtStar p.now t.now
until_star_of Done = AtEnd
until_star_of Mismatch = Differs

abbrev pub until_star : List ℕ → List ℕ → UntilStar ℕ
until_star [] [] = AtEnd
until_star [] (b ∷ text) = Differs
until_star (c ∷ pattern) [] = cond (c == 42) (AtStar pattern []) Differs
until_star (c ∷ pattern) (b ∷ text) = cond (c == 42) (AtStar pattern (b ∷ text)) (cond (fits_byte c b) (until_star pattern text) Differs)

-- ---- the same of components, at `**`

-- the components of what is left, of which there are none where nothing is left
abbrev pub parts_of : Option (List ℕ) → List (List ℕ)
parts_of None = []
parts_of (Some text) = components text

abbrev pub until_deep_of : Step (Option (Bor (List ℕ))) → UntilStar (List ℕ)
until_deep_of (Star p t) = AtStar (components p.now) (parts_of (option_map (λ s. s.now) t))
until_deep_of Done = AtEnd
until_deep_of Mismatch = Differs

abbrev pub at_pattern_end : List (List ℕ) → UntilStar (List ℕ)
at_pattern_end [] = AtEnd
at_pattern_end (t ∷ ts) = Differs

-- a last `**` takes all that is left, but not nothing
abbrev pub deep_takes : List (List ℕ) → List (List ℕ) → UntilStar (List ℕ)
deep_takes [] [] = Differs
deep_takes [] (t ∷ ts) = AtEnd
deep_takes (q ∷ ps) ts = AtStar (q ∷ ps) ts

abbrev pub until_deep : List (List ℕ) → List (List ℕ) → UntilStar (List ℕ)
until_deep [] ts = at_pattern_end ts
until_deep (p ∷ ps) [] = cond (is_deep p) (deep_takes ps []) Differs
until_deep (p ∷ ps) (t ∷ ts) = cond (is_deep p) (deep_takes ps (t ∷ ts)) (cond (fits_component p t) (until_deep ps ts) Differs)
