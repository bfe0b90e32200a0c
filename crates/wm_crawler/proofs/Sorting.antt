-- Sorted paths of the same number each are the same list, and `ordered` gives it.
use Rattle.std.proofs.Common.{◌≡◌, ℕ, zero, suc, ◌+◌, ◌<◌, Bool, true, false, cond, List, [], ◌∷◌, refl, sym, ap, ap₂, ◌∙◌, subst, arith, Ordering, Less, Equal, Greater, is_lt, is_gt, is_eq, true≢false, IsPermutation, IsSorted, bytes_eq, inl, inr, ◌⊎◌}
use Rattle.std.specs.List.{AllByRecursion, sum_by}
use Rattle.std.specs.Ordering.{ordering_reverse}
use Rattle.std.proofs.lemmas.Cmp.{nat_list_cmp_total, upto, tied_itself}
use Rattle.std.proofs.lemmas.List.Sorted.{sum_by-IsPermutation}
use Rattle.std.proofs.lemmas.List.Sums.{sum_by-cons}
use Rattle.std.proofs.lemmas.Map.Text.{is_eq-slice_cmp}
use Rattle.std.proofs.lemmas.Slice.Eq.{bytes_eq-Decides}
use Rattle.wm_names.specs.Paths.{Path, path_cmp}
use Rattle.wm_crawler.specs.FolderNames.{empty_folder, folder_of, ordered, placed, with_held_names}
use Rattle.wm_crawler.specs.Trees.{Held}

abbrev AtMost : Path → Path → Type 0
AtMost a b = is_gt (path_cmp a b) ≡ false

abbrev Rises : List Path → Type 0
Rises [] = Unit
Rises (x ∷ xs) = AllByRecursion (AtMost x) xs × Rises xs

weaker : (P Q : Path → Type 0) → ((x : Path) → P x → Q x) → (xs : List Path) → AllByRecursion P xs → AllByRecursion Q xs
weaker P Q f [] all = tt
weaker P Q f (x ∷ xs) all = (f x all.0, weaker P Q f xs all.1)

-- ---- what a sort ensures

turned : (o : Ordering) → is_lt o ≡ false → is_gt (ordering_reverse o) ≡ false
turned Less h = h
turned Equal h = refl
turned Greater h = refl

below_all : (x : Path) (ys : List Path) → IsSorted path_cmp (x ∷ ys) → Rises ys → AllByRecursion (AtMost x) ys
below_all x [] sorted up = tt
below_all x (y ∷ ys) sorted up =
    let first : AtMost x y = ap is_gt (nat_list_cmp_total.antisymm x y) ∙ turned _ (sorted 0 x (omega arith) (omega arith)) in
    (first, weaker (AtMost y) (AtMost x) (λ z. upto nat_list_cmp_total x y z first) ys up.0)

rises_from_sorted : (xs : List Path) → IsSorted path_cmp xs → Rises xs
rises_from_sorted [] sorted = tt
rises_from_sorted (x ∷ xs) sorted =
    let tail : IsSorted path_cmp xs = λ k d p q. rw Rattle.std.proofs.Common.add-one (rw Rattle.std.proofs.Common.add-one at (sorted (suc k) d (omega arith) (omega arith))) in
    let up = rises_from_sorted xs tail in
    (below_all x xs sorted up, up)

-- ---- `ordered` rises

all-placed : (P : Path → Type 0) (new : Path) (xs : List Path) → P new → AllByRecursion P xs → AllByRecursion P (placed new xs)
all-placed P new [] h all = (h, tt)
all-placed P new (x ∷ xs) h all =
    elim (is_gt (path_cmp new x)) as (λ b. AllByRecursion P (cond b (x ∷ placed new xs) (new ∷ x ∷ xs))) [ true ↦ (all.0, all-placed P new xs h all.1) | false ↦ (h, all) ]

back : (o : Ordering) → is_gt o ≡ true → is_gt (ordering_reverse o) ≡ false
back Less h = absurd (true≢false (sym h))
back Equal h = absurd (true≢false (sym h))
back Greater h = refl

rises-placed : (new : Path) (xs : List Path) → Rises xs → Rises (placed new xs)
rises-placed new [] up = (tt, tt)
rises-placed new (x ∷ xs) up = go (is_gt (path_cmp new x)) refl (rises-placed new xs up.1)
  where
    go : (b : Bool) → is_gt (path_cmp new x) ≡ b → Rises (placed new xs) → Rises (cond b (x ∷ placed new xs) (new ∷ x ∷ xs))
    go true e more =
        let first : AtMost x new = ap is_gt (nat_list_cmp_total.antisymm x new) ∙ back _ e in
        (all-placed (AtMost x) new xs first up.0, more)
    go false e more = ((e, weaker (AtMost x) (AtMost new) (λ z. upto nat_list_cmp_total new x z e) xs up.0), up)

rises-ordered : (xs : List Path) → Rises (ordered xs)
rises-ordered [] = tt
rises-ordered (x ∷ xs) = rises-placed x (ordered xs) (rises-ordered xs)

-- ---- how often a path stands in a list

abbrev one : Path → Path → ℕ
one y x = cond (bytes_eq x y) 1 0

abbrev tally : Path → List Path → ℕ
tally y [] = 0
tally y (x ∷ xs) = one y x + tally y xs

tally_is : (y : Path) (xs : List Path) → tally y xs ≡ sum_by (one y) xs
tally_is y [] = refl
tally_is y (x ∷ xs) = ap (λ n. one y x + n) (tally_is y xs) ∙ sym (sum_by-cons (one y) x xs)

tally-permutation : (y : Path) (xs ys : List Path) → IsPermutation xs ys → tally y xs ≡ tally y ys
tally-permutation y xs ys same = tally_is y xs ∙ sym (sum_by-IsPermutation (one y) xs ys same) ∙ sym (tally_is y ys)

tally-placed : (y new : Path) (xs : List Path) → tally y (placed new xs) ≡ one y new + tally y xs
tally-placed y new [] = refl
tally-placed y new (x ∷ xs) =
    let more = tally-placed y new xs in
    elim (is_gt (path_cmp new x)) as (λ b. tally y (cond b (x ∷ placed new xs) (new ∷ x ∷ xs)) ≡ one y new + (one y x + tally y xs)) [
      | true ↦ omega (arith, more)
      | false ↦ refl
    ]

tally-ordered : (y : Path) (xs : List Path) → tally y (ordered xs) ≡ tally y xs
tally-ordered y [] = refl
tally-ordered y (x ∷ xs) = tally-placed y x (ordered xs) ∙ ap (λ n. one y x + n) (tally-ordered y xs)

one_itself : (x : Path) → one x x ≡ 1
one_itself x = ap (λ b. cond b 1 0) ((bytes_eq-Decides x x).1 refl)

-- what holds of each element holds of one that is counted
found : (P : Path → Type 0) (y : Path) (xs : List Path) → 0 < tally y xs → AllByRecursion P xs → P y
found P y [] some all = absurd (omega (arith, some))
found P y (x ∷ xs) some all = go (bytes_eq x y) refl some (λ more. found P y xs more all.1)
  where
    go : (b : Bool) → bytes_eq x y ≡ b → 0 < cond b 1 0 + tally y xs → (0 < tally y xs → P y) → P y
    go true e h rest = subst P ((bytes_eq-Decides x y).0 e) all.0
    go false e h rest = rest (omega (arith, h))

-- ---- two lists that rise, with each path as often

tied : (o : Ordering) → is_gt o ≡ false → is_gt (ordering_reverse o) ≡ false → is_eq o ≡ true
tied Less h k = absurd (true≢false k)
tied Equal h k = refl
tied Greater h k = absurd (true≢false h)

both_ways : (x y : Path) → AtMost x y → AtMost y x → x ≡ y
both_ways x y h k = (bytes_eq-Decides x y).0 (sym (is_eq-slice_cmp x y) ∙ tied (path_cmp x y) h (sym (ap is_gt (nat_list_cmp_total.antisymm y x)) ∙ k))

at_most_itself : (x : Path) → AtMost x x
at_most_itself x = ap is_gt (tied_itself nat_list_cmp_total x)

heads : (x y : Path) (xs ys : List Path) → Rises (y ∷ ys) → 0 < tally x (y ∷ ys) → AtMost y x
heads x y xs ys up some = found (AtMost y) x (y ∷ ys) some (at_most_itself y, up.0)

same_list : (xs ys : List Path) → Rises xs → Rises ys → ((p : Path) → tally p xs ≡ tally p ys) → xs ≡ ys
same_list [] [] up vp same = refl
same_list [] (y ∷ ys) up vp same = absurd (omega (arith, same y, one_itself y))
same_list (x ∷ xs) [] up vp same = absurd (omega (arith, same x, one_itself x))
same_list (x ∷ xs) (y ∷ ys) up vp same =
    let below : AtMost y x = heads x y xs ys vp (omega (arith, same x, one_itself x)) in
    let above : AtMost x y = heads y x ys xs up (omega (arith, same y, one_itself y)) in
    let e = both_ways x y above below in
    let rest : (p : Path) → tally p xs ≡ tally p ys = λ p. omega (arith, same p, ap (one p) e) in
    let tails = same_list xs ys up.1 vp.1 rest in
    ap (λ z. z ∷ xs) e ∙ ap (λ l. y ∷ l) tails

-- a sort puts paths in their one order
pub sorted_is_ordered : (xs ys : List Path) → IsPermutation xs ys → IsSorted path_cmp ys → ys ≡ ordered xs
sorted_is_ordered xs ys same sorted =
    same_list ys (ordered xs) (rises_from_sorted ys sorted) (rises-ordered xs)
    (λ p. sym (tally-permutation p xs ys same) ∙ sym (tally-ordered p xs))

abbrev held_by : List Path → ℕ → Held
held_by names others = record { names = names; others = others }

-- a folder that was read to its end, and whose names were sorted
pub sorted_folder : (left : List (List ℕ)) (old new : Held) → old ≡ with_held_names left empty_folder → IsPermutation old.names new.names → new.others ≡ old.others → IsSorted path_cmp new.names → new ≡ folder_of left
sorted_folder left old new e same others sorted =
    ap₂ held_by (sorted_is_ordered old.names new.names same sorted ∙ ap (λ (h : Held). ordered h.names) e) (others ∙ ap (λ (h : Held). h.others) e)
