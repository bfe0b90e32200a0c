-- Where the paths below a folder stand in the order of all.
use Rattle.std.proofs.Common.{◌≡◌, ℕ, suc, true, not, ◌&&◌, List, [], ◌∷◌, ◌++◌, length, take, drop, nat_lt, Less, Greater, refl, sym, ap, ◌∙◌, ltb-true, eqb-true, ◌==◌, slice_index, drop-cons}
use Rattle.std.specs.Ordering.{nat_cmp, ordering_then, is_lt, is_le}
use Rattle.std.specs.Cmp.Lexicographic.{slice_cmp}
use Rattle.std.specs.BTreeMap.Range.{range_contains}
use Rattle.std.specs.declared.ops.Bound.TheVariants.{Excluded, Unbounded}
use Rattle.std.proofs.lemmas.List.{take-append-drop}
use Rattle.std.proofs.lemmas.Cmp.{nat_cmp_total, tied_itself}
use Rattle.wm_names.specs.Paths.{Path, is_under, path_cmp, same_path}
use Rattle.wm_disk.specs.laws.Tests.{both_first, both_second}
use Rattle.wm_view.specs.laws.PathSets.{same→≡}

same_front : (xs ys zs : List ℕ) → slice_cmp nat_cmp (xs ++ ys) (xs ++ zs) ≡ slice_cmp nat_cmp ys zs
same_front [] ys zs = refl
same_front (x ∷ xs) ys zs = ap (λ o. ordering_then o (slice_cmp nat_cmp (xs ++ ys) (xs ++ zs))) (tied_itself nat_cmp_total x) ∙ same_front xs ys zs

nothing_more : (xs : List ℕ) → xs ++ [] ≡ xs
nothing_more [] = refl
nothing_more (x ∷ xs) = ap (λ l. x ∷ l) (nothing_more xs)

-- a path below the folder is the folder, a slash, and more
apart : (top p : Path) → is_under top p ≡ true → p ≡ top ++ 47 ∷ drop (suc (length top)) p
apart top p under =
    let n = length top in
    let first : nat_lt n (length p) ≡ true = both_first (nat_lt n (length p)) ((slice_index p n == 47) && same_path (take n p) top) under in
    let more : ((slice_index p n == 47) && same_path (take n p) top) ≡ true = both_second (nat_lt n (length p)) ((slice_index p n == 47) && same_path (take n p) top) under in
    let slash : slice_index p n ≡ 47 = eqb-true (slice_index p n) 47 (both_first (slice_index p n == 47) (same_path (take n p) top) more) in
    let front : take n p ≡ top = same→≡ (take n p) top (both_second (slice_index p n == 47) (same_path (take n p) top) more) in
    sym (take-append-drop n p) ∙ ap (λ l. l ++ drop n p) front ∙ ap (λ l. top ++ l) (drop-cons p n 0 (ltb-true n (length p) first)) ∙ ap (λ b. top ++ b ∷ drop (suc n) p) slash

-- it stands behind the folder, and before the folder with the byte after the slash
pub behind_top : (top : Path) (x : ℕ) (r : List ℕ) → path_cmp top (top ++ x ∷ r) ≡ Less
behind_top top x r = ap (λ l. slice_cmp nat_cmp l (top ++ x ∷ r)) (sym (nothing_more top)) ∙ same_front top [] (x ∷ r)

module _ (top p : Path) (under : is_under top p ≡ true) where
  after_top : path_cmp top p ≡ Less
  after_top = ap (path_cmp top) (apart top p under) ∙ behind_top top 47 (drop (suc (length top)) p)

  before_end : path_cmp (top ++ 48 ∷ []) p ≡ Greater
  before_end = ap (path_cmp (top ++ 48 ∷ [])) (apart top p under) ∙ same_front top (48 ∷ []) (47 ∷ drop (suc (length top)) p)

  pub between : range_contains path_cmp (Excluded top) (Excluded (top ++ 48 ∷ [])) p ≡ true
  between = λ i. is_lt (after_top i) && not (is_le (before_end i))

  pub behind : range_contains path_cmp (Excluded top) Unbounded p ≡ true
  behind = λ i. is_lt (after_top i) && true
