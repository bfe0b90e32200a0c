-- The first item of a list that passes a test, by its place.
use Rattle.std.proofs.Common.{◌≡◌, ℕ, suc, ◌+◌, ◌<◌, ◌≤◌, Bool, true, false, cond, not, List, [], ◌∷◌, length, get_or, set, Some, None, nat_lt, position, refl, sym, ap, ◌∙◌, arith, ltb-true, ltb-false, unwrap_or, is_some, true≢false}
use Rattle.std.specs.List.{prefix_len}
use Rattle.wm_world.specs.Worlds.{at_first}

module _ {A : Type 0} (test : A → Bool) (f : A → A) where
  at_place : (xs : List A) (d : A) → prefix_len (λ x. not (test x)) xs < length xs → at_first test f xs ≡ set xs (prefix_len (λ x. not (test x)) xs) (f (get_or xs (prefix_len (λ x. not (test x)) xs) d))
  at_place [] d low = absurd (omega (arith, low))
  at_place (x ∷ xs) d low = by (at_place xs d) (test x) low
    where
      by : (prefix_len (λ x. not (test x)) xs < length xs → at_first test f xs ≡ set xs (prefix_len (λ x. not (test x)) xs) (f (get_or xs (prefix_len (λ x. not (test x)) xs) d))) → (b : Bool)
          → cond (not b) (1 + prefix_len (λ x. not (test x)) xs) 0 < length (x ∷ xs)
          → cond b (f x ∷ xs) (x ∷ at_first test f xs) ≡ set (x ∷ xs) (cond (not b) (1 + prefix_len (λ x. not (test x)) xs) 0) (f (get_or (x ∷ xs) (cond (not b) (1 + prefix_len (λ x. not (test x)) xs) 0) d))
      by rest true l = refl
      by rest false l =
          let n : ℕ = prefix_len (λ x. not (test x)) xs in
          let one : suc n ≡ 1 + n = omega arith in
          ap (λ ys. x ∷ ys) (rest (omega (arith, l))) ∙ ap (λ k. set (x ∷ xs) k (f (get_or (x ∷ xs) k d))) one

  at_none : (xs : List A) → length xs ≤ prefix_len (λ x. not (test x)) xs → at_first test f xs ≡ xs
  at_none [] high = refl
  at_none (x ∷ xs) high = by (at_none xs) (test x) high
    where
      by : (length xs ≤ prefix_len (λ x. not (test x)) xs → at_first test f xs ≡ xs) → (b : Bool) → length (x ∷ xs) ≤ cond (not b) (1 + prefix_len (λ x. not (test x)) xs) 0 → cond b (f x ∷ xs) (x ∷ at_first test f xs) ≡ x ∷ xs
      by rest true h = absurd (omega (arith, h))
      by rest false h = ap (λ ys. x ∷ ys) (rest (omega (arith, h)))

  pub placed : (xs : List A) (i : ℕ) (x : A) → position test xs ≡ Some i → x ≡ get_or xs i x → at_first test f xs ≡ set xs i (f x)
  placed xs i x e is = by (nat_lt (prefix_len (λ x. not (test x)) xs) (length xs)) refl e
    where
      by : (b : Bool) → nat_lt (prefix_len (λ x. not (test x)) xs) (length xs) ≡ b → cond b (Some (prefix_len (λ x. not (test x)) xs)) None ≡ Some i → at_first test f xs ≡ set xs i (f x)
      by true t q =
          let n : prefix_len (λ x. not (test x)) xs ≡ i = ap (λ o. unwrap_or o i) q in
          at_place xs x (ltb-true _ _ t) ∙ (λ j. set xs (n j) (f (get_or xs (n j) x))) ∙ ap (λ y. set xs i (f y)) (sym is)
      by false t q = absurd (true≢false (ap is_some (sym q)))

  pub unplaced : (xs : List A) → position test xs ≡ None → at_first test f xs ≡ xs
  unplaced xs e = by (nat_lt (prefix_len (λ x. not (test x)) xs) (length xs)) refl e
    where
      by : (b : Bool) → nat_lt (prefix_len (λ x. not (test x)) xs) (length xs) ≡ b → cond b (Some (prefix_len (λ x. not (test x)) xs)) None ≡ None → at_first test f xs ≡ xs
      by true t q = absurd (true≢false (ap is_some q))
      by false t q = at_none xs (ltb-false _ _ t)
