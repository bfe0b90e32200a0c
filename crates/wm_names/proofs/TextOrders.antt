-- Where one text is a beginning of the other their lengths tell the order.
use Rattle.std.proofs.Common.{◌≡◌, ◌⊎◌, inl, inr, ℕ, ◌+◌, ◌-◌, ◌≤◌, zero, suc, List, [], ◌∷◌, length, take, drop, get_or, refl, ap, sym, ◌∙◌, arith, Less, Equal, Greater}
use Rattle.std.proofs.lemmas.List.{take_rest}
use Rattle.std.specs.Ordering.{nat_cmp, ordering_then}
use Rattle.std.specs.Cmp.{nat_cmp_is}
use Rattle.std.specs.Cmp.Lexicographic.{slice_cmp}

pub by_lengths : (xs ys us vs : List ℕ) → slice_cmp nat_cmp xs ys ≡ slice_cmp nat_cmp us vs → length xs + length vs ≡ length ys + length us → (length us ≡ 0) ⊎ (length vs ≡ 0) → nat_cmp (length xs) (length ys) ≡ slice_cmp nat_cmp xs ys
by_lengths xs ys [] [] e l ends = sym (nat_cmp_is (length xs) (length ys) Equal (omega (arith, l))) ∙ sym e
by_lengths xs ys [] (v ∷ vs) e l ends = sym (nat_cmp_is (length xs) (length ys) Less (omega (arith, l))) ∙ sym e
by_lengths xs ys (u ∷ us) [] e l ends = sym (nat_cmp_is (length xs) (length ys) Greater (omega (arith, l))) ∙ sym e
by_lengths xs ys (u ∷ us) (v ∷ vs) e l (inl h) = absurd (omega (arith, h))
by_lengths xs ys (u ∷ us) (v ∷ vs) e l (inr h) = absurd (omega (arith, h))

-- What both begin with doesn't tell the order.
behind_front : (n : ℕ) (xs ys : List ℕ) → n ≤ length xs → n ≤ length ys → take n xs ≡ take n ys → slice_cmp nat_cmp xs ys ≡ slice_cmp nat_cmp (drop n xs) (drop n ys)
behind_front zero xs ys l m e = refl
behind_front (suc n) [] ys l m e = absurd (omega (arith, l))
behind_front (suc n) (x ∷ xs) [] l m e = absurd (omega (arith, m))
behind_front (suc n) (x ∷ xs) (y ∷ ys) l m e = ap (λ o. ordering_then o (slice_cmp nat_cmp xs ys)) (sym (nat_cmp_is x y Equal (ap (λ zs. get_or zs 0 x) e))) ∙ behind_front n xs ys (omega (arith, l)) (omega (arith, m)) (ap (drop 1) e)

pub passed : (n : ℕ) (xs ys : List ℕ) → (n ≤ length xs) × (n ≤ length ys) × (take n xs ≡ take n ys) → slice_cmp nat_cmp xs ys ≡ slice_cmp nat_cmp (take (length xs - n) (drop n xs)) (take (length ys - n) (drop n ys))
passed n xs ys h = behind_front n xs ys h.0 h.1 h.2 ∙ sym (ap (λ us. slice_cmp nat_cmp us (take (length ys - n) (drop n ys))) (take_rest xs n) ∙ ap (slice_cmp nat_cmp (drop n xs)) (take_rest ys n))
