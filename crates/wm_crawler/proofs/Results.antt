-- The listing of what was found.
use Rattle.std.proofs.Common.{◌≡◌, ℕ, zero, suc, ◌<◌, inl, inr, Bool, true, false, cond, ◌&&◌, ◌==◌, List, [], ◌∷◌, ◌++◌, length, take, slice_index, slice_index_or, Option, Some, None, is_some, unwrap_or, refl, sym, ap, ◌∙◌, subst, arith, true≢false, length-append, append_assoc, lt-ltb}
use Rattle.std.specs.List.{Contains}
use Rattle.std.specs.List.Sorted.{IsPermutation}
use Rattle.std.specs.Ordering.{is_eq}
use Rattle.std.specs.Cmp.{tied_itself}
use Rattle.std.specs.Cmp.Lexicographic.{nat_list_cmp_total}
use Rattle.std.proofs.lemmas.List.Sorted.{Contains-permutation, IsPermutation-sym}
use Rattle.wm_names.specs.Paths.{Path, path_cmp, same_path, is_under}
use Rattle.wm_names.specs.Entries.{covers}
use Rattle.wm_names.specs.declared.entry.Meta.{Meta}
use Rattle.wm_names.specs.declared.subtree.Subtree.{Subtree}
use Rattle.wm_names.specs.declared.subtree.Subtree.TheVariants.{Whole, Below}
use Rattle.std.specs.FinMap.{put}
use Rattle.std.specs.FinMap.Entries.{find-put}
use Rattle.wm_view.specs.Files.{Files, at}
use Rattle.wm_view.specs.Listings.{Found}
use Rattle.wm_view.specs.laws.PathSets.{same→≡}
use Rattle.wm_crawler.specs.Trees.{Content, Among}
use Rattle.wm_crawler.specs.Crawls.{IsWalk, IsBelow, ListsBelow}
use Rattle.wm_crawler.specs.Levels.{first_at, levels, or_else, paths_in}
use Rattle.wm_crawler.proofs.Walks.{below_found, found_below, found_meta}

-- ---- elements in another order

contained : {A : Type 0} (x : A) (xs : List A) → Among x xs → Contains xs x
contained x [] a = absurd a
contained x (y ∷ xs) (inl e) = (0, omega arith, sym e)
contained x (y ∷ xs) (inr a) = let m = contained x xs a in (suc m.0, omega (arith, m.1), m.2)

among_at : {A : Type 0} (x : A) (xs : List A) (k : ℕ) → k < length xs → slice_index_or xs k x ≡ x → Among x xs
among_at x [] k l e = absurd (omega arith)
among_at x (y ∷ xs) zero l e = inl (sym e)
among_at x (y ∷ xs) (suc k) l e = inr (among_at x xs k (omega arith) e)

pub moved : {A : Type 0} (x : A) (xs ys : List A) → IsPermutation xs ys → Among x xs → Among x ys
moved x xs ys p a = let m = Contains-permutation xs ys x p (contained x xs a) in among_at x ys m.0 m.1 m.2

-- ---- the first at a path

same_itself : (p : Path) → same_path p p ≡ true
same_itself p = ap is_eq (tied_itself nat_list_cmp_total p)

pub or_none : {A : Type 0} (o : Option A) → or_else o None ≡ o
or_none None = refl
or_none (Some x) = refl

pub first_more : (p : Path) (es : List (Path × Meta)) (e : Path × Meta) → first_at p (es ++ e ∷ []) ≡ or_else (first_at p es) (cond (same_path p e.0) (Some e.1) None)
first_more p [] e = refl
first_more p (x ∷ es) e = elim (same_path p x.0) as (λ b. cond b (Some x.1) (first_at p (es ++ e ∷ [])) ≡ or_else (cond b (Some x.1) (first_at p es)) (cond (same_path p e.0) (Some e.1) None)) [ true ↦ refl | false ↦ first_more p es e ]

-- a path that wasn't listed is put in
pub added : (files : Files) (p : Path) (m : Meta) (q : Path) → at files p ≡ None → at (put path_cmp p m files) q ≡ or_else (at files q) (cond (same_path q p) (Some m) None)
added files p m q e =
    find-put path_cmp nat_list_cmp_total q p m files
    ∙ elim (same_path q p) as (λ b. same_path q p ≡ b → cond b (Some m) (at files q) ≡ or_else (at files q) (cond b (Some m) None)) [
      | true ↦ λ s. sym (ap (λ o. or_else o (Some m)) (ap (at files) (same→≡ q p s) ∙ e))
      | false ↦ λ s. sym (or_none (at files q))
    ] refl

some_stays : {A : Type 0} (o x : Option A) → is_some o ≡ true → o ≡ or_else o x
some_stays None x e = absurd (true≢false (sym e))
some_stays (Some y) x e = refl

listed_stays : (files : Files) (p : Path) (m : Meta) (q : Path) → is_some (at files p) ≡ true → at files q ≡ or_else (at files q) (cond (same_path q p) (Some m) None)
listed_stays files p m q e =
    elim (same_path q p) as (λ b. same_path q p ≡ b → at files q ≡ or_else (at files q) (cond b (Some m) None)) [
      | true ↦ λ s. some_stays (at files q) (Some m) (ap (λ r. is_some (at files r)) (same→≡ q p s) ∙ e)
      | false ↦ λ s. sym (or_none (at files q))
    ] refl

abbrev pub WithIt : Found → Path → Meta → Path → Type 0
WithIt l p m q = at l.files q ≡ or_else (at l.files q) (cond (covers l.subtree p && same_path q p) (Some m) None)

-- a path outside the part changes nothing, nor one that is listed
pub outside : (l : Found) (p : Path) (m : Meta) (q : Path) → covers l.subtree p ≡ false → WithIt l p m q
outside l p m q r = sym (ap (λ b. or_else (at l.files q) (cond (b && same_path q p) (Some m) None)) r ∙ or_none (at l.files q))

pub already : (l : Found) (p : Path) (m : Meta) (q : Path) → covers l.subtree p ≡ true → is_some (at l.files p) ≡ true → WithIt l p m q
already l p m q r s = listed_stays l.files p m q s ∙ ap (λ b. or_else (at l.files q) (cond (b && same_path q p) (Some m) None)) (sym r)

both_covered : (b : Bool) (x y : Option Meta) → or_else (cond b x None) (cond (b && true) y None) ≡ cond b (or_else x y) None
both_covered true x y = refl
both_covered false x y = refl

none_covered : (b d : Bool) (x y : Option Meta) → or_else (cond b x None) (cond (d && false) y None) ≡ cond b (or_else x None) None
none_covered true true x y = refl
none_covered true false x y = refl
none_covered false true x y = refl
none_covered false false x y = refl

pub listed_more : (s : Subtree) (q p : Path) (m : Meta) (es : List (Path × Meta)) → or_else (cond (covers s q) (first_at q es) None) (cond (covers s p && same_path q p) (Some m) None) ≡ cond (covers s q) (first_at q (es ++ (p, m) ∷ [])) None
listed_more s q p m es =
    elim (same_path q p) as (λ b. same_path q p ≡ b → or_else (cond (covers s q) (first_at q es) None) (cond (covers s p && b) (Some m) None) ≡ cond (covers s q) (or_else (first_at q es) (cond b (Some m) None)) None) [
      | true ↦ λ e. ap (λ r. or_else (cond (covers s q) (first_at q es) None) (cond (covers s r && true) (Some m) None)) (sym (same→≡ q p e)) ∙ both_covered (covers s q) (first_at q es) (Some m)
      | false ↦ λ e. none_covered (covers s q) (covers s p) (first_at q es) (Some m)
    ] refl
    ∙ ap (λ o. cond (covers s q) o None) (sym (first_more q es (p, m)))

first_among : (p : Path) (m : Meta) (es : List (Path × Meta)) → first_at p es ≡ Some m → Among (p, m) es
first_among p m [] e = absurd (true≢false (sym (ap is_some e)))
first_among p m (x ∷ es) e =
    elim (same_path p x.0) as (λ b. same_path p x.0 ≡ b → cond b (Some x.1) (first_at p es) ≡ Some m → Among (p, m) (x ∷ es)) [
      | true ↦ λ s t. inl (λ i. (same→≡ p x.0 s i, sym (ap (λ o. unwrap_or o m) t) i))
      | false ↦ λ s t. inr (first_among p m es t)
    ] refl e

-- where the entries tell what a function tells, each that is there is the first
among_first : (meta : Path → Option (Option Meta)) (p : Path) (m : Meta) (es : List (Path × Meta)) → ((q : Path) (k : Meta) → Among (q, k) es → meta q ≡ Some (Some k)) → Among (p, m) es → first_at p es ≡ Some m
among_first meta p m [] tells a = absurd a
among_first meta p m (x ∷ es) tells a =
    elim (same_path p x.0) as (λ b. same_path p x.0 ≡ b → cond b (Some x.1) (first_at p es) ≡ Some m) [
      | true ↦ λ s. ap (λ o. unwrap_or o (Some m)) (sym (tells x.0 x.1 (inl refl)) ∙ ap meta (sym (same→≡ p x.0 s)) ∙ tells p m a)
      | false ↦ λ s. later s (among_first meta p m es (λ q k h. tells q k (inr h))) a
    ] refl
  where
    later : same_path p x.0 ≡ false → (Among (p, m) es → first_at p es ≡ Some m) → Among (p, m) (x ∷ es) → first_at p es ≡ Some m
    later s rest (inl e) = absurd (true≢false (sym (same_itself p) ∙ ap (λ y. same_path p y.0) e ∙ s))
    later s rest (inr b) = rest b

-- ---- what a walk leads to stands below its top

under : (c : Content) (top : Path) (names : List Path) (p : Path) (m : Meta) → IsWalk c (Below top) names p m → (rest : Path) × (p ≡ top ++ 47 ∷ rest)
under c top [] p m w = absurd w
under c top (x ∷ []) p m (h, e, t) = (x, e)
under c top (x ∷ y ∷ ys) p m (h, g, w) = let r = under c (top ++ 47 ∷ x) (y ∷ ys) p m w in (x ++ 47 ∷ r.0, r.1 ∙ append_assoc top (47 ∷ x) (47 ∷ r.0))

front : (top rest : Path) → take (length top) (top ++ rest) ≡ top
front [] rest = refl
front (b ∷ top) rest = ap (λ y. b ∷ y) (front top rest)

slash : (top rest : Path) → slice_index (top ++ 47 ∷ rest) (length top) ≡ 47
slash [] rest = refl
slash (b ∷ top) rest = slash top rest

is_under_join : (top rest : Path) → is_under top (top ++ 47 ∷ rest) ≡ true
is_under_join top rest =
    let l : length top < length (top ++ 47 ∷ rest) = omega (arith, length-append top (47 ∷ rest)) in
    (λ i. lt-ltb (length top) (length (top ++ 47 ∷ rest)) l i && ((slash top rest i == 47) && same_path (front top (47 ∷ rest) i) top))
    ∙ same_itself top

covered : (c : Content) (top : Subtree) (p : Path) (m : Meta) → IsBelow c top p m → covers top p ≡ true
covered c Whole p m w = refl
covered c (Below top) p m (names, w) = let r = under c top names p m w in ap (is_under top) r.1 ∙ is_under_join top r.0

-- ---- the listing is the crawl

pub is_crawl : (c : Content) (top : Subtree) (raw sorted : List (Path × Meta)) (files : Files) → raw ≡ levels c 1024 (paths_in c top) → IsPermutation raw sorted → ((p : Path) → at files p ≡ cond (covers top p) (first_at p sorted) None) → ListsBelow c top files
is_crawl c top raw sorted files e perm listed = (sound, complete)
  where
    below : (q : Path) (k : Meta) → Among (q, k) sorted → IsBelow c top q k
    below q k a = found_below c top q k (subst (Among (q, k)) e (moved (q, k) sorted raw (IsPermutation-sym raw sorted perm) a))

    tells : (q : Path) (k : Meta) → Among (q, k) sorted → c.meta q ≡ Some (Some k)
    tells q k a = found_meta c top q k (below q k a)

    taken : (b : Bool) (o : Option Meta) (k : Meta) → cond b o None ≡ Some k → o ≡ Some k
    taken true o k h = h
    taken false o k h = absurd (true≢false (sym (ap is_some h)))

    sound : (path : Path) (meta : Meta) → at files path ≡ Some meta → IsBelow c top path meta
    sound path meta h = below path meta (first_among path meta sorted (taken (covers top path) (first_at path sorted) meta (sym (listed path) ∙ h)))

    complete : (path : Path) (meta : Meta) → IsBelow c top path meta → at files path ≡ Some meta
    complete path meta b =
        listed path
        ∙ ap (λ t. cond t (first_at path sorted) None) (covered c top path meta b)
        ∙ among_first c.meta path meta sorted tells (moved (path, meta) raw sorted perm (subst (Among (path, meta)) (sym e) (below_found c top path meta b)))
