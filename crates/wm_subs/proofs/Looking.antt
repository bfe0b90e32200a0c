-- A loop that looks at each item of a list and takes out those that don't pass: what it leaves so far.
use Rattle.std.proofs.Common.{◌≡◌, ℕ, zero, suc, ◌≤◌, ◌<◌, Bool, true, false, cond, List, [], ◌∷◌, ◌++◌, length, take, drop, get_or, filter, sym, ap, ◌∙◌, arith}
use Rattle.std.proofs.lemmas.List.{take-append-drop}
use Rattle.std.proofs.Math.ListN.{drop_of_length-le}

module _ {A : Type 0} (f : A → Bool) where
  -- the first i items were looked at
  abbrev pub looked_at : ℕ → List A → List A
  looked_at i xs = take i xs ++ filter f (drop i xs)

  pub taken_out : (xs : List A) (i : ℕ) (x : A) → i < length xs → x ≡ get_or xs i x → f x ≡ false → looked_at i (take i xs ++ drop (suc i) xs) ≡ looked_at i xs
  taken_out [] i x l e off = absurd (omega arith)
  taken_out (y ∷ ys) zero x l e off = ap (λ b. cond b (y ∷ filter f ys) (filter f ys)) (sym (ap f (sym e) ∙ off))
  taken_out (y ∷ ys) (suc i) x l e off = ap (λ m. y ∷ m) (taken_out ys i x (omega arith) e off)

  pub left_there : (xs : List A) (i : ℕ) (x : A) → i < length xs → x ≡ get_or xs i x → f x ≡ true → looked_at (suc i) xs ≡ looked_at i xs
  left_there [] i x l e on = absurd (omega arith)
  left_there (y ∷ ys) zero x l e on = ap (λ b. cond b (y ∷ filter f ys) (filter f ys)) (sym (ap f (sym e) ∙ on))
  left_there (y ∷ ys) (suc i) x l e on = ap (λ m. y ∷ m) (left_there ys i x (omega arith) e on)

  pub all_looked_at : (xs : List A) (i : ℕ) → length xs ≤ i → looked_at i xs ≡ xs
  all_looked_at xs i l =
      let none : drop i xs ≡ [] = drop_of_length-le xs l in
      ap (λ m. take i xs ++ filter f m) none ∙ sym (ap (λ m. take i xs ++ m) none) ∙ take-append-drop i xs
