-- Laws of parts of a list, for proofs: a reader of definitions may skip them.
use Rattle.std.proofs.Common.{inl, inr, List, [], ◌∷◌, ◌++◌, refl, subst, ◌∙◌, append-nil}
use Rattle.wm_disk.specs.Parts.{IsPartOf}

module _ {A : Type 0} where
  pub part_same : (xs : List A) → IsPartOf xs xs
  part_same [] = tt
  part_same (x ∷ xs) = inl (refl, part_same xs)

  pub part_behind : (xs ys : List A) (y : A) → IsPartOf xs ys → IsPartOf xs (y ∷ ys)
  part_behind [] ys y h = tt
  part_behind (x ∷ xs) ys y h = inr h

  pub part_both : (xs ys us vs : List A) → IsPartOf xs ys → IsPartOf us vs → IsPartOf (xs ++ us) (ys ++ vs)
  part_both [] [] us vs h k = k
  part_both [] (y ∷ ys) us vs h k = part_behind us (ys ++ vs) y (part_both [] ys us vs tt k)
  part_both (x ∷ xs) [] us vs h k = absurd h
  part_both (x ∷ xs) (y ∷ ys) us vs (inl (e, h)) k = inl (e, part_both xs ys us vs h k)
  part_both (x ∷ xs) (y ∷ ys) us vs (inr h) k = inr (part_both (x ∷ xs) ys us vs h k)

  pub part_then : (xs ys zs : List A) → IsPartOf xs ys → IsPartOf ys zs → IsPartOf xs zs
  part_then [] ys zs h k = tt
  part_then (x ∷ xs) [] zs h k = absurd h
  part_then (x ∷ xs) (y ∷ ys) [] h k = absurd k
  part_then (x ∷ xs) (y ∷ ys) (z ∷ zs) (inl (e, h)) (inl (f, k)) = inl (e ∙ f, part_then xs ys zs h k)
  part_then (x ∷ xs) (y ∷ ys) (z ∷ zs) (inr h) (inl (f, k)) = inr (part_then (x ∷ xs) ys zs h k)
  part_then (x ∷ xs) (y ∷ ys) (z ∷ zs) h (inr k) = inr (part_then (x ∷ xs) (y ∷ ys) zs h k)

  pub part_prefix : (xs ys zs : List A) → IsPartOf xs ys → IsPartOf xs (ys ++ zs)
  part_prefix xs ys zs h = subst (λ us. IsPartOf us (ys ++ zs)) (append-nil xs) (part_both xs ys [] zs h tt)
