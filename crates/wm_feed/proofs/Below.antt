-- Folders below folders, and which of them stand below no other one.
use Rattle.std.proofs.Common.{◌≡◌, ◌⊎◌, inl, inr, ℕ, ◌+◌, ◌<◌, suc, get_or, map, subst, Bool, true, false, not, cond, ◌&&◌, List, [], ◌∷◌, ◌++◌, length, take, drop, nat_lt, Less, Equal, Greater, refl, sym, ap, ◌∙◌, arith, length-append, ltb-true, eqb-true, ◌==◌, slice_index, drop-cons, true≢false}
use Rattle.std.specs.Prelude.{◌||◌}
use Rattle.std.specs.Ordering.{nat_cmp, ordering_then, is_eq}
use Rattle.std.specs.Cmp.Lexicographic.{slice_cmp}
use Rattle.std.specs.List.{AllByRecursion, filter}
use Rattle.std.specs.List.Sorted.{IsStrictlySortedBy}
use Rattle.std.specs.declared.cmp.Ordering.{Ordering}
use Rattle.std.proofs.lemmas.Bool.{false_from_ne_true, le-ltb, lt-ltb, or_cases, or_from, or_left, or_right}
use Rattle.std.proofs.lemmas.List.{append-nil, append_assoc, take-append-drop, take_more}
use Rattle.std.proofs.lemmas.List.Elements.{filter-append, filter_agree}
use Rattle.std.proofs.lemmas.List.Folds.{list_any-append}
use Rattle.std.proofs.lemmas.Cmp.{nat_cmp_total, tied_itself}
use Rattle.std.proofs.lemmas.Map.Keys.{sorted_head, sorted_tail}
use Rattle.std.proofs.lemmas.Map.Lookups.{exact_bytes}
use Rattle.wm_disk.specs.laws.Tests.{both_first, both_second}
use Rattle.wm_names.specs.Paths.{Path, is_under, path_cmp, same_path}
use Rattle.wm_names.specs.declared.subtree.Subtree.TheVariants.{Below, Whole}
use Rattle.wm_feed.specs.Batches.{Gathered}
use Rattle.wm_feed.specs.Steps.{AskedStep, AsksInOrder, InLists, crawl, is_below_any, is_wide, observe, outside, tops}
use Rattle.wm_feed.proofs.Asking.{path_itself}

-- ---- one path below another

pub same→≡ : (p q : Path) → same_path p q ≡ true → p ≡ q
same→≡ p q e = exact_bytes p q (equal (path_cmp p q) e)
  where
    equal : (o : Ordering) → is_eq o ≡ true → o ≡ Equal
    equal Less h = absurd (true≢false (sym h))
    equal Equal h = refl
    equal Greater h = absurd (true≢false (sym h))

-- a path below the folder is the folder, a slash, and more
apart : (top p : Path) → is_under top p ≡ true → p ≡ top ++ 47 ∷ drop (suc (length top)) p
apart top p under =
    let n = length top in
    let first : nat_lt n (length p) ≡ true = both_first (nat_lt n (length p)) ((slice_index p n == 47) && same_path (take n p) top) under in
    let more : ((slice_index p n == 47) && same_path (take n p) top) ≡ true = both_second (nat_lt n (length p)) ((slice_index p n == 47) && same_path (take n p) top) under in
    let slash : slice_index p n ≡ 47 = eqb-true (slice_index p n) 47 (both_first (slice_index p n == 47) (same_path (take n p) top) more) in
    let front : take n p ≡ top = same→≡ (take n p) top (both_second (slice_index p n == 47) (same_path (take n p) top) more) in
    sym (take-append-drop n p) ∙ ap (λ l. l ++ drop n p) front ∙ ap (λ l. top ++ l) (drop-cons p n 0 (ltb-true n (length p) first)) ∙ ap (λ b. top ++ b ∷ drop (suc n) p) slash

front : (top rest : Path) → take (length top) (top ++ rest) ≡ top
front [] rest = refl
front (b ∷ top) rest = ap (λ y. b ∷ y) (front top rest)

slash : (top rest : Path) → slice_index (top ++ 47 ∷ rest) (length top) ≡ 47
slash [] rest = refl
slash (b ∷ top) rest = slash top rest

joined : (top rest : Path) → is_under top (top ++ 47 ∷ rest) ≡ true
joined top rest =
    let l : length top < length (top ++ 47 ∷ rest) = omega (arith, length-append top (47 ∷ rest)) in
    (λ i. lt-ltb (length top) (length (top ++ 47 ∷ rest)) l i && ((slash top rest i == 47) && same_path (front top (47 ∷ rest) i) top))
    ∙ path_itself top

-- below a folder that is below another one
pub lower : (a b p : Path) → is_under a b ≡ true → is_under b p ≡ true → is_under a p ≡ true
lower a b p ab bp =
    let r : Path = drop (suc (length a)) b in
    let s : Path = drop (suc (length b)) p in
    let whole : p ≡ a ++ 47 ∷ (r ++ 47 ∷ s) = apart b p bp ∙ ap (λ l. l ++ 47 ∷ s) (apart a b ab) ∙ append_assoc a (47 ∷ r) (47 ∷ s) in
    ap (is_under a) whole ∙ joined a (r ++ 47 ∷ s)

-- ---- in their order

same_front : (xs ys zs : List ℕ) → slice_cmp nat_cmp (xs ++ ys) (xs ++ zs) ≡ slice_cmp nat_cmp ys zs
same_front [] ys zs = refl
same_front (x ∷ xs) ys zs = ap (λ o. ordering_then o (slice_cmp nat_cmp (xs ++ ys) (xs ++ zs))) (tied_itself nat_cmp_total x) ∙ same_front xs ys zs

-- a path stands behind the folder that it is below
after : (top p : Path) → is_under top p ≡ true → path_cmp p top ≡ Greater
after top p under =
    ap (λ l. path_cmp l top) (apart top p under)
    ∙ ap (λ l. slice_cmp nat_cmp (top ++ 47 ∷ drop (suc (length top)) p) l) (sym (append-nil top))
    ∙ same_front top (47 ∷ drop (suc (length top)) p) []

none_behind : (f : Path) (rest : List Path) → AllByRecursion (λ g. path_cmp f g ≡ Less) rest → is_below_any f rest ≡ false
none_behind f [] h = refl
none_behind f (g ∷ rest) h =
    or_from (is_under g f) (is_below_any f rest) (false_from_ne_true (is_under g f) (λ under. less_greater (sym h.0 ∙ after g f under))) (none_behind f rest h.1)
  where
    less_greater : Less ≡ Greater → ⊥
    less_greater e = cc

not_itself : (f : Path) → is_under f f ≡ false
not_itself f = ap (λ b. b && ((slice_index f (length f) == 47) && same_path (take (length f) f) f)) (le-ltb (length f) (length f) (omega arith))

suffix : (seen : List Path) (f : Path) (rest : List Path) → IsStrictlySortedBy path_cmp (seen ++ f ∷ rest) → AllByRecursion (λ g. path_cmp f g ≡ Less) rest
suffix [] f rest h = sorted_head path_cmp f rest h
suffix (x ∷ seen) f rest h = suffix seen f rest (sorted_tail path_cmp x (seen ++ f ∷ rest) h)

-- a folder of several in order stands below those in front of it alone
pub in_front : (seen : List Path) (f : Path) (rest : List Path) → IsStrictlySortedBy path_cmp (seen ++ f ∷ rest) → is_below_any f (seen ++ f ∷ rest) ≡ is_below_any f seen
in_front seen f rest h =
    list_any-append (λ g. is_under g f) seen (f ∷ rest)
    ∙ ap (λ b. is_below_any f seen || b) (or_from (is_under f f) (is_below_any f rest) (not_itself f) (none_behind f rest (suffix seen f rest h)))
    ∙ or_false (is_below_any f seen)
  where
    or_false : (b : Bool) → (b || false) ≡ b
    or_false true = refl
    or_false false = refl

-- ---- the top ones

-- what is below a folder that stands below one of these is so too
pub lower_any : (f p : Path) (xs : List Path) → is_below_any f xs ≡ true → is_under f p ≡ true → is_below_any p xs ≡ true
lower_any f p [] h u = absurd (true≢false (sym h))
lower_any f p (x ∷ xs) h u = by (λ e. lower_any f p xs e u) (or_cases (is_under x f) (is_below_any f xs) h)
  where
    by : (is_below_any f xs ≡ true → is_below_any p xs ≡ true) → (is_under x f ≡ true) ⊎ (is_below_any f xs ≡ true) → (is_under x p || is_below_any p xs) ≡ true
    by rest (inl e) = or_left (is_under x p) (is_below_any p xs) (lower x f p e u)
    by rest (inr e) = or_right (is_under x p) (is_below_any p xs) (rest e)

-- tops holds those of seen that are top ones among all, and each path below one of seen is below one of them
pub record AreTops (all seen found : List Path) : Type 0 where
  pub among : found ≡ filter (λ p. not (is_below_any p all)) seen
  pub below : (p : Path) → is_below_any p found ≡ is_below_any p seen

below_more : (p f : Path) (xs : List Path) → is_below_any p (xs ++ f ∷ []) ≡ (is_below_any p xs || is_under f p)
below_more p f xs = list_any-append (λ g. is_under g p) xs (f ∷ []) ∙ ap (λ b. is_below_any p xs || b) (last (is_under f p))
  where
    last : (b : Bool) → (b || false) ≡ b
    last true = refl
    last false = refl

module _ (seen : List Path) (f : Path) (rest found : List Path) (sorted : IsStrictlySortedBy path_cmp (seen ++ f ∷ rest)) (before : AreTops (seen ++ f ∷ rest) seen found) where
  abbrev all : List Path
  all = seen ++ f ∷ rest

  kept : (b : Bool) → is_below_any f found ≡ b → filter (λ p. not (is_below_any p all)) (seen ++ f ∷ []) ≡ found ++ cond (not b) (f ∷ []) []
  kept b h =
      filter-append (λ p. not (is_below_any p all)) seen (f ∷ [])
      ∙ ap (λ xs. xs ++ cond (not (is_below_any f all)) (f ∷ []) []) (sym before.among)
      ∙ ap (λ v. found ++ cond (not v) (f ∷ []) []) (in_front seen f rest sorted ∙ sym (before.below f) ∙ h)

  pub tops_skip : is_below_any f found ≡ true → AreTops all (seen ++ f ∷ []) found
  tops_skip h = record {
    among = sym (kept true h ∙ append-nil found);
    below = λ p. before.below p ∙ sym (below_more p f seen ∙ covered p (is_under f p) refl);
  }
    where
      covered : (p : Path) (u : Bool) → is_under f p ≡ u → (is_below_any p seen || u) ≡ is_below_any p seen
      covered p true e =
          let there : is_below_any p seen ≡ true = sym (before.below p) ∙ lower_any f p found h e in
          or_right (is_below_any p seen) true refl ∙ sym there
      covered p false e = or_false (is_below_any p seen)
        where
          or_false : (b : Bool) → (b || false) ≡ b
          or_false true = refl
          or_false false = refl

  pub tops_push : is_below_any f found ≡ false → AreTops all (seen ++ f ∷ []) (found ++ f ∷ [])
  tops_push h = record {
    among = sym (kept false h);
    below = λ p. below_more p f found ∙ ap (λ b. b || is_under f p) (before.below p) ∙ sym (below_more p f seen);
  }

  -- one more than those that were found are top ones
  pub tops_many : is_below_any f found ≡ false → length found < length (tops all)
  tops_many h =
      let parts : tops all ≡ found ++ (f ∷ filter (λ p. not (is_below_any p all)) rest) =
      filter-append (λ p. not (is_below_any p all)) seen (f ∷ rest)
      ∙ ap (λ xs. xs ++ filter (λ p. not (is_below_any p all)) (f ∷ rest)) (sym before.among)
      ∙ ap (λ v. found ++ cond (not v) (f ∷ filter (λ p. not (is_below_any p all)) rest) (filter (λ p. not (is_below_any p all)) rest)) (in_front seen f rest sorted ∙ sym (before.below f) ∙ h) in
      omega (arith, ap length parts, length-append found (f ∷ filter (λ p. not (is_below_any p all)) rest))

pub no_tops : (paths : List Path) → AreTops paths [] []
no_tops paths = record { among = refl; below = λ p. refl }

-- those outside the top ones are those outside all
pub outside_tops : (found folders paths : List Path) → ((p : Path) → is_below_any p found ≡ is_below_any p folders) → outside found paths ≡ outside folders paths
outside_tops found folders paths h = filter_agree (λ p. not (is_below_any p found)) (λ p. not (is_below_any p folders)) (λ p. ap not (h p)) paths

-- ---- the step of a loop over folders in their order

module _ (xs : List Path) (i : ℕ) (f : Path) (found : List Path) (sorted : IsStrictlySortedBy path_cmp xs) (before : AreTops xs (take i xs) found) (low : i < length xs) (here : f ≡ get_or xs i f) where
  abbrev seen : List Path
  seen = take i xs

  abbrev rest : List Path
  rest = drop (suc i) xs

  parts : xs ≡ seen ++ f ∷ rest
  parts = sym (take-append-drop i xs) ∙ ap (λ l. seen ++ l) (drop-cons xs i f low) ∙ ap (λ x. seen ++ x ∷ rest) (sym here)

  next : take (i + 1) xs ≡ seen ++ f ∷ []
  next = take_more xs i f low ∙ ap (λ x. seen ++ x ∷ []) (sym here)

  in_order : IsStrictlySortedBy path_cmp (seen ++ f ∷ rest)
  in_order = subst (IsStrictlySortedBy path_cmp) parts sorted

  are : AreTops (seen ++ f ∷ rest) seen found
  are = subst (λ all. AreTops all seen found) parts before

  pub skip_at : is_below_any f found ≡ true → AreTops xs (take (i + 1) xs) found
  skip_at h = subst (λ s. AreTops xs s found) (sym next) (subst (λ all. AreTops all (seen ++ f ∷ []) found) (sym parts) (tops_skip seen f rest found in_order are h))

  pub push_at : is_below_any f found ≡ false → AreTops xs (take (i + 1) xs) (found ++ f ∷ [])
  push_at h = subst (λ s. AreTops xs s (found ++ f ∷ [])) (sym next) (subst (λ all. AreTops all (seen ++ f ∷ []) (found ++ f ∷ [])) (sym parts) (tops_push seen f rest found in_order are h))

  pub many_at : is_below_any f found ≡ false → length found < length (tops xs)
  many_at h = subst (λ all. length found < length (tops all)) (sym parts) (tops_many seen f rest found in_order are h)

-- ---- what is asked for

pub asks_whole : (a : Gathered) (asked : List AskedStep) → is_wide a ≡ true → asked ≡ crawl Whole ∷ [] → AsksInOrder a asked
asks_whole a asked w e = rw w e

pub asks_parts : (a : Gathered) (found : List Path) (asked : List AskedStep) → found ≡ tops a.folders → is_wide a ≡ false → ((p : Path) → is_below_any p found ≡ is_below_any p a.folders)
    → (lists : List (List Path)) × (asked ≡ map (λ top. crawl (Below top)) found ++ map (λ list. observe list) lists) × InLists (outside found a.paths) lists → AsksInOrder a asked
asks_parts a found asked e w below (lists, is, within) =
    rw w (lists, is ∙ ap (λ l. map (λ top. crawl (Below top)) l ++ map (λ list. observe list) lists) e, subst (λ paths. InLists paths lists) (outside_tops found a.folders a.paths below) within)
