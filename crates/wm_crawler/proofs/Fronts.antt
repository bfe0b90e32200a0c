-- Names whose front numbers differ stand as these do.
use Rattle.std.proofs.Common.{◌≡◌, ◌≢◌, ℕ, zero, suc, ◌+◌, ◌*◌, ◌<◌, ◌≤◌, List, [], ◌∷◌, refl, sym, subst, ap, ◌∙◌, arith, Ordering, Less, Equal, Greater}
use Rattle.std.specs.Prelude.{slice_index}
use Rattle.std.specs.Ordering.{nat_cmp, ordering_then, MatchOrdering}
use Rattle.std.specs.Cmp.{ranks, nat_cmp_is}
use Rattle.std.specs.Cmp.Lexicographic.{slice_cmp}
use Rattle.wm_crawler.specs.NameTexts.{IsFront, spelt}

abbrev AreBytes : List ℕ → Type 0
AreBytes xs = (i : ℕ) → slice_index xs i < 256

strictly : (x y : ℕ) → x ≤ y → (x ≢ y) → x < y
strictly x y le f = by (nat_cmp x y) (ranks x y)
  where
    by : (r : Ordering) → MatchOrdering r (x < y) (x ≡ y) (y < x) → x < y
    by Less l = l
    by Equal e = absurd (f e)
    by Greater l = let over : y < x = l in absurd (omega arith)

-- no bytes spell the least
lowest : (n a b : ℕ) (ys : List ℕ) → a ≤ b → spelt a n [] ≤ spelt b n ys
lowest zero a b ys l = l
lowest (suc n) a b [] l = lowest n (a * 256) (b * 256) [] (omega arith)
lowest (suc n) a b (y ∷ ys) l = lowest n (a * 256) (b * 256 + y) ys (omega arith)

rises : (n a b : ℕ) (xs ys : List ℕ) → AreBytes xs → a < b → spelt a n xs < spelt b n ys
rises zero a b xs ys h l = l
rises (suc n) a b [] [] h l = rises n (a * 256) (b * 256) [] [] h (omega arith)
rises (suc n) a b [] (y ∷ ys) h l = rises n (a * 256) (b * 256 + y) [] ys h (omega arith)
rises (suc n) a b (x ∷ xs) [] h l =
    let small : x < 256 = h 0 in
    rises n (a * 256 + x) (b * 256) xs [] (λ i. h (suc i)) (omega arith)
rises (suc n) a b (x ∷ xs) (y ∷ ys) h l =
    let small : x < 256 = h 0 in
    rises n (a * 256 + x) (b * 256 + y) xs ys (λ i. h (suc i)) (omega arith)

decides : (n a : ℕ) (xs ys : List ℕ) → AreBytes xs → AreBytes ys → (spelt a n xs ≢ spelt a n ys) → slice_cmp nat_cmp xs ys ≡ nat_cmp (spelt a n xs) (spelt a n ys)
decides zero a xs ys g h f = absurd (f refl)
decides (suc n) a [] [] g h f = absurd (f refl)
decides (suc n) a [] (y ∷ ys) g h f = nat_cmp_is _ _ Less (strictly _ _ (lowest n (a * 256) (a * 256 + y) ys (omega arith)) f)
decides (suc n) a (x ∷ xs) [] g h f = nat_cmp_is _ _ Greater (strictly _ _ (lowest n (a * 256) (a * 256 + x) xs (omega arith)) (λ e. f (sym e)))
decides (suc n) a (x ∷ xs) (y ∷ ys) g h f = by (decides n (a * 256 + x) xs ys (λ i. g (suc i)) (λ i. h (suc i))) (nat_cmp x y) refl (ranks x y)
  where
    then_rest : (r : Ordering) → nat_cmp x y ≡ r → ordering_then (nat_cmp x y) (slice_cmp nat_cmp xs ys) ≡ ordering_then r (slice_cmp nat_cmp xs ys)
    then_rest r e = ap (λ o. ordering_then o (slice_cmp nat_cmp xs ys)) e

    by : ((spelt (a * 256 + x) n xs ≢ spelt (a * 256 + x) n ys) → slice_cmp nat_cmp xs ys ≡ nat_cmp (spelt (a * 256 + x) n xs) (spelt (a * 256 + x) n ys))
        → (r : Ordering) → nat_cmp x y ≡ r → MatchOrdering r (x < y) (x ≡ y) (y < x)
        → slice_cmp nat_cmp (x ∷ xs) (y ∷ ys) ≡ nat_cmp (spelt (a * 256 + x) n xs) (spelt (a * 256 + y) n ys)
    by rest Less e l =
        let under : x < y = l in
        then_rest Less e ∙ nat_cmp_is _ _ Less (rises n (a * 256 + x) (a * 256 + y) xs ys (λ i. g (suc i)) (omega arith))
    by rest Greater e l =
        let over : y < x = l in
        then_rest Greater e ∙ nat_cmp_is _ _ Greater (rises n (a * 256 + y) (a * 256 + x) ys xs (λ i. h (suc i)) (omega arith))
    by rest Equal e l =
        let level : x ≡ y = l in
        let apart = subst (λ z. spelt (a * 256 + x) n xs ≢ spelt (a * 256 + z) n ys) (sym level) f in
        then_rest Equal e ∙ rest apart ∙ ap (λ z. nat_cmp (spelt (a * 256 + x) n xs) (spelt (a * 256 + z) n ys)) level

pub fronts_decide : (a b : ℕ) (xs ys : List ℕ) → IsFront a xs → IsFront b ys → (a ≢ b) → nat_cmp a b ≡ slice_cmp nat_cmp xs ys
fronts_decide a b xs ys g h f = (λ i. nat_cmp (g.0 i) (h.0 i)) ∙ sym (decides 16 0 xs ys g.1 h.1 (λ e. f (g.0 ∙ e ∙ sym h.0)))
