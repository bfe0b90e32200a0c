-- Components, cut off one after another.
use Rattle.std.proofs.Common.{◌≡◌, ℕ, ◌+◌, ◌<◌, ◌≤◌, Bool, true, false, cond, List, [], ◌∷◌, length, take, drop, refl, ap, ◌∙◌, arith}
use Rattle.std.specs.Prelude.{nat_lt, ◌==◌, Some, None}
use Rattle.std.specs.List.{position, position_or_len, slice_split, onto_first}
use Rattle.std.proofs.lemmas.Bool.{ltb-true, ltb-false}
use Rattle.std.proofs.lemmas.List.Splits.{slice_split_first, slice_split_none}
use Rattle.std.proofs.lemmas.List.Sums.{fails_before_first}
use Rattle.wm_names.specs.Paths.{components}
use Rattle.wm_expr.specs.Globs.{AtEnd, AtStar, Differs, deep_takes, at_pattern_end}

module _ (p : ℕ → Bool) (xs : List ℕ) where
  abbrev n : ℕ
  n = position_or_len p xs

  found : (v : Bool) → nat_lt n (length xs) ≡ v → (i : ℕ) → cond v (Some n) None ≡ Some i → (n ≡ i) × (n < length xs)
  found true h i e = (cc, ltb-true n (length xs) h)
  found false h i e = cc

  not_found : (v : Bool) → nat_lt n (length xs) ≡ v → cond v (Some n) None ≡ None → length xs ≤ n
  not_found true h e = cc
  not_found false h e = ltb-false n (length xs) h

  pub cut_at : (i : ℕ) → position p xs ≡ Some i → slice_split p xs ≡ take i xs ∷ slice_split p (drop (i + 1) xs)
  cut_at i e =
      let is = found (nat_lt n (length xs)) refl i e in
      slice_split_first p xs 0 is.1 ∙ ap (λ (k : ℕ). take k xs ∷ slice_split p (drop (k + 1) xs)) is.0

  pub uncut : position p xs ≡ None → slice_split p xs ≡ xs ∷ []
  uncut e =
      let over : length xs ≤ n = not_found (nat_lt n (length xs)) refl e in
      slice_split_none p xs (λ k d h. fails_before_first p xs k d (omega arith))

-- there is always a component
pub some_component : (text : List ℕ) (ts : List (List ℕ)) → deep_takes (components text) ts ≡ AtStar (components text) ts
some_component [] ts = refl
some_component (x ∷ xs) ts =
    elim (x == 47) as (λ v. deep_takes (cond v ([] ∷ components xs) (onto_first x (components xs))) ts ≡ AtStar (cond v ([] ∷ components xs) (onto_first x (components xs))) ts)
    [ true ↦ refl | false ↦ put_onto x (components xs) ts ]
  where
    put_onto : (x : ℕ) (parts ts : List (List ℕ)) → deep_takes (onto_first x parts) ts ≡ AtStar (onto_first x parts) ts
    put_onto x [] ts = refl
    put_onto x (part ∷ parts) ts = refl

pub end_of_some : (text : List ℕ) → AtEnd ≡ deep_takes [] (components text)
end_of_some [] = refl
end_of_some (x ∷ xs) =
    elim (x == 47) as (λ v. AtEnd ≡ deep_takes [] (cond v ([] ∷ components xs) (onto_first x (components xs)))) [ true ↦ refl | false ↦ put_onto x (components xs) ]
  where
    put_onto : (x : ℕ) (parts : List (List ℕ)) → AtEnd ≡ deep_takes [] (onto_first x parts)
    put_onto x [] = refl
    put_onto x (part ∷ parts) = refl

pub differs_at_some : (text : List ℕ) → at_pattern_end (components text) ≡ Differs
differs_at_some [] = refl
differs_at_some (x ∷ xs) =
    elim (x == 47) as (λ v. at_pattern_end (cond v ([] ∷ components xs) (onto_first x (components xs))) ≡ Differs) [ true ↦ refl | false ↦ put_onto x (components xs) ]
  where
    put_onto : (x : ℕ) (parts : List (List ℕ)) → at_pattern_end (onto_first x parts) ≡ Differs
    put_onto x [] = refl
    put_onto x (part ∷ parts) = refl
