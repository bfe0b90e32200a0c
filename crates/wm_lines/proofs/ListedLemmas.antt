-- Files that are listed once, and the map of them.
use Rattle.std.proofs.Common.{◌≡◌, ℕ, Bool, true, false, cond, ◌&&◌, ◌||◌, T, List, [], ◌∷◌, ◌++◌, map, refl, sym, ap, subst, ◌∙◌, true≢false, append_assoc}
use Rattle.std.specs.Prelude.{Option, Some, None, is_some, option_and_then, IsSome, ◌≢◌}
use Rattle.std.specs.Borrow.{Bor}
use Rattle.std.specs.List.{fold}
use Rattle.std.specs.declared.cmp.Ordering.{Ordering}
use Rattle.std.specs.declared.cmp.Ordering.TheVariants.{Less, Equal, Greater}
use Rattle.std.specs.Ordering.{nat_cmp, match_ordering, is_eq, is_lt, ordering_reverse}
use Rattle.std.specs.Cmp.{eq_by_cmp_equiv}
use Rattle.std.specs.Cmp.Lexicographic.{slice_cmp, nat_list_cmp_total}
use Rattle.std.specs.Map.{lookup, keys_of}
use Rattle.std.specs.List.{AllByRecursion}
use Rattle.std.specs.List.Sorted.{IsStrictlySortedBy}
use Rattle.std.proofs.lemmas.Map.Keys.{sorted_head, sorted_tail}
use Rattle.std.specs.BTreeMap.{insert_entry, is_at}
use Rattle.std.specs.FinMap.{put, find, is_sorted}
use Rattle.std.specs.FinMap.Entries.{by_order, below_all, find-put}
use Rattle.std.proofs.lemmas.List.{map-append}
use Rattle.std.proofs.lemmas.List.Sums.{fold-append}
use Rattle.wm_names.specs.Paths.{Path, path_cmp, same_path}
use Rattle.wm_names.specs.declared.entry.Meta.{Meta}
use Rattle.wm_disk.specs.declared.refusal.Refusal.{Refusal}
use Rattle.wm_disk.specs.declared.refusal.Refusal.TheVariants.{BadArguments, BadPath, NoMemory}
use Rattle.wm_view.specs.Files.{Files, is_in}
use Rattle.wm_view.specs.Listings.{AddRefused, Found}
use Rattle.wm_names.specs.Paths.{is_rel_path}
use Rattle.wm_names.specs.Entries.{covers}
use Rattle.wm_names.specs.declared.subtree.Subtree.{Subtree}
use Rattle.wm_lines.proofs.EachLemmas.{put_before}
use Rattle.wm_lines.specs.ListingLines.{are_below, has_twice, map_of, once}
use Rattle.wm_lines.specs.PairLines.{by_text}

abbrev pub Entries : Type 0
Entries = List (Bor (List ℕ) × Meta)

abbrev pub text_cmp : Bor (List ℕ) → Bor (List ℕ) → Ordering
text_cmp x y = slice_cmp nat_cmp x.now y.now

-- ---- a `BTreeMap` with texts as keys is a map by path

pub by_text-insert : (k : Bor (List ℕ)) (v : Meta) (es : Entries) → by_text (insert_entry text_cmp es k v) ≡ put path_cmp k.now v (by_text es)
by_text-insert k v [] = refl
by_text-insert k v (e ∷ es) =
    elim (path_cmp k.now e.0.now) as (λ o. by_text (match_ordering o ((k, v) ∷ e ∷ es) ((e.0, v) ∷ es) (e ∷ insert_entry text_cmp es k v))
    ≡ by_order o ((k.now, v) ∷ (e.0.now, e.1) ∷ by_text es) ((e.0.now, v) ∷ by_text es) ((e.0.now, e.1) ∷ put path_cmp k.now v (by_text es))) [
      | Less ↦ refl
      | Equal ↦ refl
      | Greater ↦ ap (λ (l : Files). (e.0.now, e.1) ∷ l) (by_text-insert k v es)
    ]

pub by_text-lookup : (k : Bor (List ℕ)) (es : Entries) → lookup (is_at (text_cmp k)) es ≡ find path_cmp k.now (by_text es)
by_text-lookup k [] = refl
by_text-lookup k (e ∷ es) = ap (λ (o : Option Meta). cond (same_path k.now e.0.now) (Some e.1) o) (by_text-lookup k es)

-- ---- what is listed twice

abbrev pub paths : Files → List Path
paths files = map (λ p. p.0) files

same_back : (p q : Path) → same_path p q ≡ same_path q p
same_back p q = (eq_by_cmp_equiv nat_list_cmp_total).symm p q

is_in-append : (p : Path) (ps qs : List Path) → is_in p (ps ++ qs) ≡ (is_in p ps || is_in p qs)
is_in-append p [] qs = refl
is_in-append p (x ∷ ps) qs = elim (same_path p x) as (λ b. (b || is_in p (ps ++ qs)) ≡ ((b || is_in p ps) || is_in p qs)) [ true ↦ refl | false ↦ is_in-append p ps qs ]

or_true : (b : Bool) → (b || true) ≡ true
or_true true = refl
or_true false = refl

-- a path is in the map of a list where it is in the list
in_fold : (q : Path) (es m : Files) → is_some (find path_cmp q (fold (λ files p. put path_cmp p.0 p.1 files) m es)) ≡ (is_in q (paths es) || is_some (find path_cmp q m))
in_fold q [] m = refl
in_fold q (e ∷ es) m =
    in_fold q es (put path_cmp e.0 e.1 m)
    ∙ (ap (λ (o : Option Meta). is_in q (paths es) || is_some o) (find-put path_cmp nat_list_cmp_total q e.0 e.1 m)
    ∙ elim (same_path q e.0) as (λ b. (is_in q (paths es) || is_some (cond b (Some e.1) (find path_cmp q m))) ≡ ((b || is_in q (paths es)) || is_some (find path_cmp q m))) [
      | true ↦ or_true (is_in q (paths es))
      | false ↦ refl
    ])

none_of : (a b : Bool) → (a || b) ≡ false → (a ≡ false) × (b ≡ false)
none_of true b e = absurd (true≢false e)
none_of false b e = (refl, e)

twice_append : (p : Path) (ps qs : List Path) → is_in p ps ≡ true → has_twice (ps ++ p ∷ qs) ≡ true
twice_append p [] qs h = absurd (true≢false (sym h))
twice_append p (x ∷ ps) qs h =
    elim (same_path p x) as (λ b. same_path p x ≡ b → (b || is_in p ps) ≡ true → (is_in x (ps ++ p ∷ qs) || has_twice (ps ++ p ∷ qs)) ≡ true) [
      | true ↦ λ same _.
          let here : is_in x (ps ++ p ∷ qs) ≡ true = is_in-append x ps (p ∷ qs) ∙ (ap (λ (b : Bool). is_in x ps || (b || is_in x qs)) (same_back x p ∙ same) ∙ or_true (is_in x ps)) in
          ap (λ (b : Bool). b || has_twice (ps ++ p ∷ qs)) here
      | false ↦ λ _ later. ap (λ (b : Bool). is_in x (ps ++ p ∷ qs) || b) (twice_append p ps qs later) ∙ or_true (is_in x (ps ++ p ∷ qs))
    ] refl h

twice_push : (p : Path) (ps : List Path) → has_twice ps ≡ false → is_in p ps ≡ false → has_twice (ps ++ p ∷ []) ≡ false
twice_push p [] h k = refl
twice_push p (x ∷ ps) h k =
    let apart = none_of (is_in x ps) (has_twice ps) h in
    let new = none_of (same_path p x) (is_in p ps) k in
    let here : is_in x (ps ++ p ∷ []) ≡ false = is_in-append x ps (p ∷ []) ∙ (ap (λ (b : Bool). b || (same_path x p || false)) apart.0 ∙ ap (λ (b : Bool). b || false) (same_back x p ∙ new.0)) in
    ap (λ (b : Bool). b || has_twice (ps ++ p ∷ [])) here ∙ twice_push p ps apart.1 new.1

-- ---- the map of a list in which no path stands twice

parts : (es m : Files) → once es ≡ Some m → (has_twice (paths es) ≡ false) × (m ≡ map_of es)
parts es m e =
    elim (has_twice (paths es)) as (λ b. has_twice (paths es) ≡ b → cond b None (Some (map_of es)) ≡ Some m → (has_twice (paths es) ≡ false) × (m ≡ map_of es)) [
      | true ↦ λ p q. cc
      | false ↦ λ p q. (p, cc)
    ] refl e

or_false : (b : Bool) → (b || false) ≡ b
or_false true = refl
or_false false = refl

in_map : (q : Path) (es m : Files) → once es ≡ Some m → is_in q (paths es) ≡ is_some (find path_cmp q m)
in_map q es m e =
    sym (ap (λ (files : Files). is_some (find path_cmp q files)) (parts es m e).1 ∙ (in_fold q es [] ∙ or_false (is_in q (paths es))))

pub once-again : (done rest m : Files) (p : Path) (v : Meta) → once done ≡ Some m → is_some (find path_cmp p m) ≡ true → once (done ++ (p, v) ∷ rest) ≡ None
once-again done rest m p v e h =
    let twice : has_twice (paths (done ++ (p, v) ∷ rest)) ≡ true =
    ap has_twice (map-append (λ (x : Path × Meta). x.0) done ((p, v) ∷ rest)) ∙ twice_append p (paths done) (paths rest) (in_map p done m e ∙ h) in
    ap (λ (b : Bool). cond b None (Some (map_of (done ++ (p, v) ∷ rest)))) twice

pub once-new : (done m : Files) (p : Path) (v : Meta) → once done ≡ Some m → is_some (find path_cmp p m) ≡ false → once (done ++ (p, v) ∷ []) ≡ Some (put path_cmp p v m)
once-new done m p v e h =
    let was = parts done m e in
    let twice : has_twice (paths (done ++ (p, v) ∷ [])) ≡ false =
    ap has_twice (map-append (λ (x : Path × Meta). x.0) done ((p, v) ∷ [])) ∙ twice_push p (paths done) was.0 (in_map p done m e ∙ h) in
    ap (λ (b : Bool). cond b None (Some (map_of (done ++ (p, v) ∷ [])))) twice
    ∙ ap (λ (files : Files). Some files) (fold-append (λ files (x : Path × Meta). put path_cmp x.0 x.1 files) [] done ((p, v) ∷ []) ∙ ap (λ (files : Files). put path_cmp p v files) (sym was.1))

-- ---- files in the order of their paths

first_of : (a b : Bool) → T (a && b) → T a
first_of true b p = tt
first_of false b p = p

second_of : (a b : Bool) → T (a && b) → T b
second_of true b p = p
second_of false b p = absurd p

both_of : (a b : Bool) → T a → T b → T (a && b)
both_of true b p q = q
both_of false b p q = absurd p

below_by_text : (k : Bor (List ℕ)) (es : Entries) → AllByRecursion (λ y. text_cmp k y ≡ Less) (keys_of es) → T (below_all path_cmp k.now (by_text es))
below_by_text k [] h = tt
below_by_text k (e ∷ es) h = both_of (is_lt (path_cmp k.now e.0.now)) (below_all path_cmp k.now (by_text es)) (subst (λ o. T (is_lt o)) (sym h.0) tt) (below_by_text k es h.1)

sorted_by_text : (es : Entries) → IsStrictlySortedBy text_cmp (keys_of es) → T (is_sorted path_cmp (by_text es))
sorted_by_text [] h = tt
sorted_by_text (e ∷ es) h =
    both_of (below_all path_cmp e.0.now (by_text es)) (is_sorted path_cmp (by_text es)) (below_by_text e.0 es (sorted_head text_cmp e.0 (keys_of es) h)) (sorted_by_text es (sorted_tail text_cmp e.0 (keys_of es) h))

below_at : (k p : Path) (v : Meta) (xs ys : Files) → T (below_all path_cmp k (xs ++ (p, v) ∷ ys)) → T (is_lt (path_cmp k p))
below_at k p v [] ys h = first_of (is_lt (path_cmp k p)) (below_all path_cmp k ys) h
below_at k p v (x ∷ xs) ys h = below_at k p v xs ys (second_of (is_lt (path_cmp k x.0)) (below_all path_cmp k (xs ++ (p, v) ∷ ys)) h)

less : (o : Ordering) → T (is_lt o) → o ≡ Less
less Less p = refl
less Equal p = absurd p
less Greater p = absurd p

above : (k p : Path) → T (is_lt (path_cmp k p)) → path_cmp p k ≡ Greater
above k p h = nat_list_cmp_total.antisymm p k ∙ ap ordering_reverse (less (path_cmp k p) h)

-- the next of files in order isn't among those before it, and is put behind them
put_last : (p : Path) (v : Meta) (xs ys : Files) → T (is_sorted path_cmp (xs ++ (p, v) ∷ ys)) → (find path_cmp p xs ≡ None) × (put path_cmp p v xs ≡ xs ++ (p, v) ∷ [])
put_last p v [] ys h = (refl, refl)
put_last p v (x ∷ xs) ys h =
    let rest = put_last p v xs ys (second_of (below_all path_cmp x.0 (xs ++ (p, v) ∷ ys)) (is_sorted path_cmp (xs ++ (p, v) ∷ ys)) h) in
    let e : path_cmp p x.0 ≡ Greater = above x.0 p (below_at x.0 p v xs ys (first_of (below_all path_cmp x.0 (xs ++ (p, v) ∷ ys)) (is_sorted path_cmp (xs ++ (p, v) ∷ ys)) h)) in (
      ap (λ (o : Ordering). cond (is_eq o) (Some x.1) (find path_cmp p xs)) e ∙ rest.0,
      ap (λ (o : Ordering). by_order o ((p, v) ∷ x ∷ xs) ((x.0, v) ∷ xs) (x ∷ put path_cmp p v xs)) e ∙ ap (λ (l : Files). x ∷ l) rest.1,
    )

-- ---- the list so far and one more

pub all_again : (done m : Files) (p : Path) (v : Meta) (o : Option Files) → once done ≡ Some m → is_some (find path_cmp p m) ≡ true → option_and_then once (put_before (done ++ (p, v) ∷ []) o) ≡ None
all_again done m p v None e h = refl
all_again done m p v (Some rest) e h = ap once (append_assoc done ((p, v) ∷ []) rest) ∙ once-again done rest m p v e h

pub below_fails : (s : Subtree) (xs ys : Files) (p : Path) (v : Meta) → (is_rel_path p && covers s p) ≡ false → are_below s (xs ++ (p, v) ∷ ys) ≡ false
below_fails s [] ys p v e = ap (λ (b : Bool). b && are_below s ys) e
below_fails s (x ∷ xs) ys p v e =
    let rest = below_fails s xs ys p v e in
    elim (is_rel_path x.0 && covers s x.0) as (λ b. (b && are_below s (xs ++ (p, v) ∷ ys)) ≡ false) [ true ↦ rest | false ↦ refl ]

pub below_more : (s : Subtree) (xs : Files) (p : Path) (v : Meta) → are_below s xs ≡ true → is_rel_path p ≡ true → covers s p ≡ true → are_below s (xs ++ (p, v) ∷ []) ≡ true
below_more s [] p v h a b = rw (a, b) refl
below_more s (x ∷ xs) p v h a b =
    elim (is_rel_path x.0 && covers s x.0) as (λ t. (t && are_below s xs) ≡ true → (t && are_below s (xs ++ (p, v) ∷ [])) ≡ true) [
      | true ↦ λ k. below_more s xs p v k a b
      | false ↦ λ k. k
    ] h

-- why a path isn't added that isn't there yet
pub new_refused : (found : Found) (p : Path) (e : Refusal) → AddRefused found p e → find path_cmp p found.files ≡ None → e ≢ NoMemory → (e ≡ BadPath) × (covers found.subtree p ≡ false)
new_refused found p BadPath h new ne = (refl, h)
new_refused found p BadArguments h new ne = absurd (true≢false (sym (subst (λ (o : Option Meta). IsSome o) new h.1)))
new_refused found p NoMemory h new ne = absurd (ne refl)
new_refused found p _ h new ne = absurd h

-- ---- one turn of reading the paths of files in order: those read, the next, and the rest

pub record Turn (all files rest : Files) (p : Path) (v : Meta) : Type 0 where
  pub whole : all ≡ files ++ (p, v) ∷ rest
  pub new : find path_cmp p files ≡ None
  pub last : put path_cmp p v files ≡ files ++ (p, v) ∷ []

pub turn : (es : Entries) (files rest : Files) (p : Path) (v : Meta) → IsStrictlySortedBy text_cmp (keys_of es) → by_text es ≡ files ++ (p, v) ∷ rest → Turn (by_text es) files rest p v
turn es files rest p v sorted whole =
    let place = put_last p v files rest (subst (λ (l : Files). T (is_sorted path_cmp l)) whole (sorted_by_text es sorted)) in
    record { whole = whole; new = place.0; last = place.1 }
