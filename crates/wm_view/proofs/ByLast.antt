-- The order of change lists what is known by its last change.
use Rattle.std.proofs.Common.{◌≡◌, rules, ℕ, zero, suc, ◌-◌, ◌<◌, ◌≤◌, ◌==◌, Bool, true, false, cond, ◌&&◌, ◌||◌, T, List, [], ◌∷◌, ◌++◌, Option, Some, None, filter, refl, sym, ap, subst, ◌∙◌, arith, nat_lt, nat_le, lt-ltb, le-leb, leb-true, leb-false, eqb-true, eq-eqb, Less, Equal, Greater, true≢false}
use Rattle.std.specs.Ordering.{is_lt, is_eq, ordering_then, nat_cmp}
use Rattle.std.specs.declared.cmp.Ordering.{Ordering}
use Rattle.std.specs.List.{AllByRecursion, list_any}
use Rattle.std.specs.List.Sorted.{IsStrictlySortedBy}
use Rattle.std.specs.BTreeMap.{is_at}
use Rattle.std.specs.Cmp.{IsTotalOrder, tied_itself, then_total, on_total, nat_cmp_total}
use Rattle.std.specs.Cmp.Lexicographic.{nat_list_cmp_total}
use Rattle.std.specs.Option.{option_or}
use Rattle.std.specs.FinMap.{find, is_sorted, nat_cmp-IsAntisymmetric}
use Rattle.std.specs.FinMap.Entries.{below_all, same_entries}
use Rattle.std.proofs.lemmas.Map.Keys.{sorted_head, sorted_tail}
use Rattle.std.proofs.lemmas.Map.Lookups.{exact_pairs, exact_unsigned, exact_bytes}
use Rattle.wm_disk.specs.Counters.{max_counter}
use Rattle.wm_names.specs.Paths.{Path, path_cmp, same_path}
use Rattle.wm_view.specs.declared.known.Known.{Known}
use Rattle.wm_view.specs.Summaries.{Knowns, by_last}
use Rattle.wm_view.specs.KnownPaths.{Place, place_cmp, known_there, add_known, known_at}
use Rattle.wm_view.proofs.Orders.{both, first, second, not_found}
use Rattle.wm_view.specs.laws.PathSets.{same→≡}

-- the entries under their places
abbrev pub Placed : Type 0
Placed = List (Place × Known)

place : Path × Known → Place
place e = (max_counter - e.1.last, e.0)

abbrev pub keyed : Knowns → Placed
keyed [] = []
keyed (e ∷ es) = ((max_counter - e.1.last, e.0), e.1) ∷ keyed es

abbrev unkeyed : Placed → Knowns
unkeyed [] = []
unkeyed (f ∷ fs) = (f.0.1, f.1) ∷ unkeyed fs

there_and_back : (es : Knowns) → unkeyed (keyed es) ≡ es
there_and_back [] = refl
there_and_back (e ∷ es) = ap (λ l. e ∷ l) (there_and_back es)

keyed-append : (es fs : Knowns) → keyed (es ++ fs) ≡ keyed es ++ keyed fs
keyed-append [] fs = refl
keyed-append (e ∷ es) fs = ap (λ l. ((max_counter - e.1.last, e.0), e.1) ∷ l) (keyed-append es fs)

place_total : IsTotalOrder place_cmp
place_total = then_total (on_total (λ (t : Place). t.0) nat_cmp_total) (on_total (λ (t : Place). t.1) nat_list_cmp_total)

place_exact : (x y : Place) → place_cmp x y ≡ Equal → x ≡ y
place_exact = exact_pairs nat_cmp path_cmp exact_unsigned exact_bytes

find-two : (q : Place) (xs ys : Placed) → find place_cmp q (xs ++ ys) ≡ option_or (find place_cmp q xs) (find place_cmp q ys)
find-two q [] ys = refl
find-two q (x ∷ xs) ys =
    elim (is_eq (place_cmp q x.0)) as (λ b. cond b (Some x.1) (find place_cmp q (xs ++ ys)) ≡ option_or (cond b (Some x.1) (find place_cmp q xs)) (find place_cmp q ys)) [
      | true ↦ refl
      | false ↦ find-two q xs ys
    ]

none_there : (b : Bool) → (b && false) ≡ false
none_there true = refl
none_there false = refl

too_much : (l n : ℕ) → l ≡ suc n → l ≤ n → ⊥
too_much l n e le = omega arith

with_none : (o : Option Known) → option_or o None ≡ o
with_none None = refl
with_none (Some x) = refl

pub tied : (a b : ℕ) → a ≡ b → nat_cmp a b ≡ Equal
tied a b e = ap (nat_cmp a) (sym e) ∙ tied_itself nat_cmp_total a

lower : (n : ℕ) → suc n ≤ max_counter → max_counter - suc n < max_counter - n
lower n l = omega arith

is_equal : (r : Ordering) → is_eq r ≡ true → r ≡ Equal
is_equal Less e = absurd (true≢false (sym e))
is_equal Equal e = refl
is_equal Greater e = absurd (true≢false (sym e))

itself : (q : Place) → is_eq (place_cmp q q) ≡ true
itself q = ap is_eq (tied_itself place_total q)

only_none : (b : Bool) → ◌≡◌ {A = Option Known} (cond b None None) None
only_none true = refl
only_none false = refl

-- ---- what is found by last change

-- where the last change is at the tick m, and the place is its own
abbrev at_tick : ℕ → Option Known → ℕ → Option Known
at_tick m None b = None
at_tick m (Some x) b = cond (x.last == m) (cond (is_eq (nat_cmp b (max_counter - x.last))) (Some x) None) None

then_tied : (a b : Ordering) → is_eq b ≡ true → is_eq (ordering_then a b) ≡ is_eq a
then_tied Less b e = refl
then_tied Equal b e = e
then_tied Greater b e = refl

pub then_apart : (a b : Ordering) → is_eq b ≡ false → is_eq (ordering_then a b) ≡ false
then_apart Less b e = refl
then_apart Equal b e = e
then_apart Greater b e = refl

none_after : (p : Path) (e : Path × Known) (es : Knowns) → same_path p e.0 ≡ true → T (is_sorted path_cmp (e ∷ es)) → find path_cmp p es ≡ None
none_after p e es same s = ap (λ r. find path_cmp r es) (same→≡ p e.0 same) ∙ not_found e.0 es (first (below_all path_cmp e.0 es) (is_sorted path_cmp es) s)

find_tick : (q : Place) (m : ℕ) (ks : Knowns) → T (is_sorted path_cmp ks) → find place_cmp q (keyed (filter (λ e. e.1.last == m) ks)) ≡ at_tick m (find path_cmp q.1 ks) q.0
find_tick q m [] s = refl
find_tick q m (e ∷ es) s =
    let rest : find place_cmp q (keyed (filter (λ e. e.1.last == m) es)) ≡ at_tick m (find path_cmp q.1 es) q.0 = find_tick q m es (second (below_all path_cmp e.0 es) (is_sorted path_cmp es) s) in
    let a : Ordering = nat_cmp q.0 (max_counter - e.1.last) in
    elim (same_path q.1 e.0) as (λ b. same_path q.1 e.0 ≡ b → find place_cmp q (keyed (cond (e.1.last == m) (e ∷ filter (λ e. e.1.last == m) es) (filter (λ e. e.1.last == m) es))) ≡ at_tick m (cond b (Some e.1) (find path_cmp q.1 es)) q.0) [
      | true ↦ λ same.
          let none : find place_cmp q (keyed (filter (λ e. e.1.last == m) es)) ≡ None = rest ∙ ap (λ o. at_tick m o q.0) (none_after q.1 e es same s) in
          elim (e.1.last == m) as (λ b. find place_cmp q (keyed (cond b (e ∷ filter (λ e. e.1.last == m) es) (filter (λ e. e.1.last == m) es))) ≡ cond b (cond (is_eq a) (Some e.1) None) None) [
            | true ↦ λ i. cond (then_tied a (path_cmp q.1 e.0) same i) (Some e.1) (none i)
            | false ↦ none
          ]
      | false ↦ λ other.
          elim (e.1.last == m) as (λ b. find place_cmp q (keyed (cond b (e ∷ filter (λ e. e.1.last == m) es) (filter (λ e. e.1.last == m) es))) ≡ at_tick m (find path_cmp q.1 es) q.0) [
            | true ↦ ap (λ b. cond b (Some e.1) (find place_cmp q (keyed (filter (λ e. e.1.last == m) es)))) (then_apart a (path_cmp q.1 e.0) other) ∙ rest
            | false ↦ rest
          ]
    ] refl

-- where the last change is at a tick from 1 to n
abbrev up_to_tick : ℕ → Option Known → ℕ → Option Known
up_to_tick n None b = None
up_to_tick n (Some x) b = cond (nat_lt 0 x.last && nat_le x.last n) (cond (is_eq (nat_cmp b (max_counter - x.last))) (Some x) None) None

pub not_at_most : (l n : ℕ) → n < l → nat_le l n ≡ false
not_at_most l n less =
    elim (nat_le l n) as (λ b. nat_le l n ≡ b → b ≡ false) [
      | true ↦ λ t. let le : l ≤ n = leb-true l n t in absurd (omega arith)
      | false ↦ λ _. refl
    ] refl

none_yet : (l : ℕ) → (nat_lt 0 l && nat_le l 0) ≡ false
none_yet zero = refl
none_yet (suc l) = ap (λ b. nat_lt 0 (suc l) && b) (not_at_most (suc l) 0 (omega arith)) ∙ none_there (nat_lt 0 (suc l))

within_more : (l n : ℕ) → (l == suc n) ≡ false → (nat_lt 0 l && nat_le l n) ≡ (nat_lt 0 l && nat_le l (suc n))
within_more l n other =
    elim (nat_le l n) as (λ b. nat_le l n ≡ b → (nat_lt 0 l && b) ≡ (nat_lt 0 l && nat_le l (suc n))) [
      | true ↦ λ t. let le : l ≤ n = leb-true l n t in ap (λ b. nat_lt 0 l && b) (sym (le-leb l (suc n) (omega arith)))
      | false ↦ λ f. elim (nat_le l (suc n)) as (λ b. nat_le l (suc n) ≡ b → (nat_lt 0 l && false) ≡ (nat_lt 0 l && b)) [
        | true ↦ λ t.
            let high : n < l = leb-false l n f in
            let low : l ≤ suc n = leb-true l (suc n) t in
            absurd (true≢false (sym (eq-eqb l (suc n) (omega arith)) ∙ other))
        | false ↦ λ _. refl
      ] refl
    ] refl

here_within : (l n : ℕ) → (l == suc n) ≡ true → (nat_lt 0 l && nat_le l (suc n)) ≡ true
here_within l n e =
    let same : l ≡ suc n = eqb-true l (suc n) e in
    ap (λ k. nat_lt 0 k && nat_le k (suc n)) same ∙ (λ i. lt-ltb 0 (suc n) (omega arith) i && le-leb (suc n) (suc n) (omega arith) i)

not_before : (l n : ℕ) → (l == suc n) ≡ true → (nat_lt 0 l && nat_le l n) ≡ false
not_before l n e =
    let same : l ≡ suc n = eqb-true l (suc n) e in
    elim (nat_le l n) as (λ b. nat_le l n ≡ b → (nat_lt 0 l && b) ≡ false) [
      | true ↦ λ t. let le : l ≤ n = leb-true l n t in absurd (too_much l n same le)
      | false ↦ λ _. none_there (nat_lt 0 l)
    ] refl

one_more_tick : (n : ℕ) (o : Option Known) (b : ℕ) → option_or (at_tick (suc n) o b) (up_to_tick n o b) ≡ up_to_tick (suc n) o b
one_more_tick n None b = refl
one_more_tick n (Some x) b =
    let there : Option Known = cond (is_eq (nat_cmp b (max_counter - x.last))) (Some x) None in
    elim (x.last == suc n) as (λ c. (x.last == suc n) ≡ c → option_or (cond c there None) (cond (nat_lt 0 x.last && nat_le x.last n) there None) ≡ cond (nat_lt 0 x.last && nat_le x.last (suc n)) there None) [
      | true ↦ λ e. ap (λ c. option_or there (cond c there None)) (not_before x.last n e) ∙ with_none there ∙ sym (ap (λ c. cond c there None) (here_within x.last n e))
      | false ↦ λ e. ap (λ c. cond c there None) (within_more x.last n e)
    ] refl

find_by_last : (q : Place) (n : ℕ) (ks : Knowns) → T (is_sorted path_cmp ks) → find place_cmp q (keyed (by_last ks n)) ≡ up_to_tick n (find path_cmp q.1 ks) q.0
find_by_last q zero ks s =
    elim (find path_cmp q.1 ks) as (λ o. None ≡ up_to_tick 0 o q.0) [
      | None ↦ refl
      | Some x ↦ sym (ap (λ c. cond c (cond (is_eq (nat_cmp q.0 (max_counter - x.last))) (Some x) None) None) (none_yet x.last))
    ]
find_by_last q (suc n) ks s =
    ap (find place_cmp q) (keyed-append (filter (λ e. e.1.last == suc n) ks) (by_last ks n))
    ∙ find-two q (keyed (filter (λ e. e.1.last == suc n) ks)) (keyed (by_last ks n))
    ∙ (λ i. option_or (find_tick q (suc n) ks s i) (find_by_last q n ks s i))
    ∙ one_more_tick n (find path_cmp q.1 ks) q.0

-- ---- they stand in the order of their places

pub nat_less : (a b : ℕ) → a < b → nat_cmp a b ≡ Less
nat_less a b l = search rules

below_tick : (q : Place) (m : ℕ) (ks : Knowns) → q.0 < max_counter - m → T (below_all place_cmp q (keyed (filter (λ e. e.1.last == m) ks)))
below_tick q m [] l = tt
below_tick q m (e ∷ es) l =
    elim (e.1.last == m) as (λ b. (e.1.last == m) ≡ b → T (below_all place_cmp q (keyed (cond b (e ∷ filter (λ e. e.1.last == m) es) (filter (λ e. e.1.last == m) es))))) [
      | true ↦ λ t.
          let same : e.1.last ≡ m = eqb-true e.1.last m t in
          both (is_lt (place_cmp q (max_counter - e.1.last, e.0))) (below_all place_cmp q (keyed (filter (λ e. e.1.last == m) es)))
          (subst (λ o. T (is_lt (ordering_then o (path_cmp q.1 e.0)))) (sym (nat_less q.0 (max_counter - e.1.last) (subst (λ k. q.0 < max_counter - k) (sym same) l))) tt)
          (below_tick q m es l)
      | false ↦ λ _. below_tick q m es l
    ] refl

below_two : (q : Place) (xs ys : Placed) → T (below_all place_cmp q xs) → T (below_all place_cmp q ys) → T (below_all place_cmp q (xs ++ ys))
below_two q [] ys a b = b
below_two q (x ∷ xs) ys a b =
    both (is_lt (place_cmp q x.0)) (below_all place_cmp q (xs ++ ys)) (first (is_lt (place_cmp q x.0)) (below_all place_cmp q xs) a)
    (below_two q xs ys (second (is_lt (place_cmp q x.0)) (below_all place_cmp q xs) a) b)

below_by_last : (q : Place) (n : ℕ) (ks : Knowns) → q.0 < max_counter - n → T (below_all place_cmp q (keyed (by_last ks n)))
below_by_last q zero ks l = tt
below_by_last q (suc n) ks l =
    subst (λ fs. T (below_all place_cmp q fs)) (sym (keyed-append (filter (λ e. e.1.last == suc n) ks) (by_last ks n)))
    (below_two q (keyed (filter (λ e. e.1.last == suc n) ks)) (keyed (by_last ks n)) (below_tick q (suc n) ks l) (below_by_last q n ks (omega arith)))

-- a path below all is below those at its own tick
below_own : (e : Path × Known) (m : ℕ) (ks : Knowns) → e.1.last ≡ m → T (below_all path_cmp e.0 ks) → T (below_all place_cmp (max_counter - e.1.last, e.0) (keyed (filter (λ e. e.1.last == m) ks)))
below_own e m [] same h = tt
below_own e m (f ∷ fs) same h =
    let rest : T (below_all place_cmp (max_counter - e.1.last, e.0) (keyed (filter (λ e. e.1.last == m) fs))) = below_own e m fs same (second (is_lt (path_cmp e.0 f.0)) (below_all path_cmp e.0 fs) h) in
    elim (f.1.last == m) as (λ b. (f.1.last == m) ≡ b → T (below_all place_cmp (max_counter - e.1.last, e.0) (keyed (cond b (f ∷ filter (λ e. e.1.last == m) fs) (filter (λ e. e.1.last == m) fs))))) [
      | true ↦ λ t.
          both (is_lt (place_cmp (max_counter - e.1.last, e.0) (max_counter - f.1.last, f.0))) (below_all place_cmp (max_counter - e.1.last, e.0) (keyed (filter (λ e. e.1.last == m) fs)))
          (subst (λ o. T (is_lt (ordering_then o (path_cmp e.0 f.0)))) (sym (tied (max_counter - e.1.last) (max_counter - f.1.last) (ap (λ k. max_counter - k) (same ∙ sym (eqb-true f.1.last m t))))) (first (is_lt (path_cmp e.0 f.0)) (below_all path_cmp e.0 fs) h))
          rest
      | false ↦ λ _. rest
    ] refl

sorted_tick : (m : ℕ) (ks : Knowns) (ys : Placed) → T (is_sorted path_cmp ks) → T (is_sorted place_cmp ys) → ((p : Path) → T (below_all place_cmp (max_counter - m, p) ys)) → T (is_sorted place_cmp (keyed (filter (λ e. e.1.last == m) ks) ++ ys))
sorted_tick m [] ys s t h = t
sorted_tick m (e ∷ es) ys s t h =
    let rest : T (is_sorted place_cmp (keyed (filter (λ e. e.1.last == m) es) ++ ys)) = sorted_tick m es ys (second (below_all path_cmp e.0 es) (is_sorted path_cmp es) s) t h in
    elim (e.1.last == m) as (λ b. (e.1.last == m) ≡ b → T (is_sorted place_cmp (keyed (cond b (e ∷ filter (λ e. e.1.last == m) es) (filter (λ e. e.1.last == m) es)) ++ ys))) [
      | true ↦ λ u.
          let same : e.1.last ≡ m = eqb-true e.1.last m u in
          both (below_all place_cmp (max_counter - e.1.last, e.0) (keyed (filter (λ e. e.1.last == m) es) ++ ys)) (is_sorted place_cmp (keyed (filter (λ e. e.1.last == m) es) ++ ys))
          (below_two (max_counter - e.1.last, e.0) (keyed (filter (λ e. e.1.last == m) es)) ys (below_own e m es same (first (below_all path_cmp e.0 es) (is_sorted path_cmp es) s))
          (subst (λ k. T (below_all place_cmp (max_counter - k, e.0) ys)) (sym same) (h e.0)))
          rest
      | false ↦ λ _. rest
    ] refl

sorted_by_last : (n : ℕ) (ks : Knowns) → n ≤ max_counter → T (is_sorted path_cmp ks) → T (is_sorted place_cmp (keyed (by_last ks n)))
sorted_by_last zero ks l s = tt
sorted_by_last (suc n) ks l s =
    subst (λ fs. T (is_sorted place_cmp fs)) (sym (keyed-append (filter (λ e. e.1.last == suc n) ks) (by_last ks n)))
    (sorted_tick (suc n) ks (keyed (by_last ks n)) s (sorted_by_last n ks (omega arith) s) (λ p. below_by_last (max_counter - suc n, p) n ks (lower n l)))

-- ---- what the order lists

pub own_place : (o : Place) (x : Known) → is_eq (nat_cmp o.0 (max_counter - x.last)) ≡ true → o.0 ≡ max_counter - x.last
own_place o x e = nat_cmp-IsAntisymmetric o.0 (max_counter - x.last) (is_equal (nat_cmp o.0 (max_counter - x.last)) e)

below_listed : (ks : Knowns) (q : Place) (os : List Place) → AllByRecursion (λ o. place_cmp q o ≡ Less) os → T (below_all place_cmp q (keyed (known_at ks os)))
below_listed ks q [] h = tt
below_listed ks q (o ∷ os) h =
    let rest : T (below_all place_cmp q (keyed (known_at ks os))) = below_listed ks q os h.1 in
    elim (find path_cmp o.1 ks) as (λ f. T (below_all place_cmp q (keyed (add_known o.1 (known_there f o.0) (known_at ks os))))) [
      | None ↦ rest
      | Some x ↦ elim (is_eq (nat_cmp o.0 (max_counter - x.last))) as (λ b. is_eq (nat_cmp o.0 (max_counter - x.last)) ≡ b → T (below_all place_cmp q (keyed (add_known o.1 (cond b (Some x) None) (known_at ks os))))) [
        | true ↦ λ e.
            both (is_lt (place_cmp q (max_counter - x.last, o.1))) (below_all place_cmp q (keyed (known_at ks os)))
            (subst (λ b. T (is_lt (place_cmp q (b, o.1)))) (own_place o x e) (subst (λ r. T (is_lt r)) (sym h.0) tt))
            rest
        | false ↦ λ _. rest
      ] refl
    ]

sorted_listed : (ks : Knowns) (os : List Place) → IsStrictlySortedBy place_cmp os → T (is_sorted place_cmp (keyed (known_at ks os)))
sorted_listed ks [] s = tt
sorted_listed ks (o ∷ os) s =
    let rest : T (is_sorted place_cmp (keyed (known_at ks os))) = sorted_listed ks os (sorted_tail place_cmp o os s) in
    elim (find path_cmp o.1 ks) as (λ f. T (is_sorted place_cmp (keyed (add_known o.1 (known_there f o.0) (known_at ks os))))) [
      | None ↦ rest
      | Some x ↦ elim (is_eq (nat_cmp o.0 (max_counter - x.last))) as (λ b. is_eq (nat_cmp o.0 (max_counter - x.last)) ≡ b → T (is_sorted place_cmp (keyed (add_known o.1 (cond b (Some x) None) (known_at ks os))))) [
        | true ↦ λ e.
            both (below_all place_cmp (max_counter - x.last, o.1) (keyed (known_at ks os))) (is_sorted place_cmp (keyed (known_at ks os)))
            (subst (λ b. T (below_all place_cmp (b, o.1) (keyed (known_at ks os)))) (own_place o x e) (below_listed ks o os (sorted_head place_cmp o os s)))
            rest
        | false ↦ λ _. rest
      ] refl
    ]

module _ (ks : Knowns) (q o : Place) (os : List Place) where
  here : (f : Option Known) → is_eq (place_cmp q q) ≡ true → find place_cmp q (keyed (known_at ks os)) ≡ cond (list_any (is_at (place_cmp q)) os) (known_there f q.0) None → find place_cmp q (keyed (add_known q.1 (known_there f q.0) (known_at ks os))) ≡ known_there f q.0
  here None same rest = rest ∙ only_none (list_any (is_at (place_cmp q)) os)
  here (Some x) same rest =
      elim (is_eq (nat_cmp q.0 (max_counter - x.last))) as (λ b. is_eq (nat_cmp q.0 (max_counter - x.last)) ≡ b → find place_cmp q (keyed (known_at ks os)) ≡ cond (list_any (is_at (place_cmp q)) os) (cond b (Some x) None) None → find place_cmp q (keyed (add_known q.1 (cond b (Some x) None) (known_at ks os))) ≡ cond b (Some x) None) [
        | true ↦ λ e _. ap (λ b. cond (is_eq (place_cmp q (b, q.1))) (Some x) (find place_cmp q (keyed (known_at ks os)))) (sym (own_place q x e)) ∙ ap (λ b. cond b (Some x) (find place_cmp q (keyed (known_at ks os)))) same
        | false ↦ λ _ r. r ∙ only_none (list_any (is_at (place_cmp q)) os)
      ] refl rest

  passed : (f : Option Known) → is_eq (place_cmp q o) ≡ false → find place_cmp q (keyed (add_known o.1 (known_there f o.0) (known_at ks os))) ≡ find place_cmp q (keyed (known_at ks os))
  passed None other = refl
  passed (Some x) other =
      elim (is_eq (nat_cmp o.0 (max_counter - x.last))) as (λ b. is_eq (nat_cmp o.0 (max_counter - x.last)) ≡ b → find place_cmp q (keyed (add_known o.1 (cond b (Some x) None) (known_at ks os))) ≡ find place_cmp q (keyed (known_at ks os))) [
        | true ↦ λ e. ap (λ b. cond (is_eq (place_cmp q (b, o.1))) (Some x) (find place_cmp q (keyed (known_at ks os)))) (sym (own_place o x e)) ∙ ap (λ b. cond b (Some x) (find place_cmp q (keyed (known_at ks os)))) other
        | false ↦ λ _. refl
      ] refl

-- at another place nothing is found first, and at this one what is known there
find_listed : (ks : Knowns) (q : Place) (os : List Place) → find place_cmp q (keyed (known_at ks os)) ≡ cond (list_any (is_at (place_cmp q)) os) (known_there (find path_cmp q.1 ks) q.0) None
find_listed ks q [] = refl
find_listed ks q (o ∷ os) =
    let rest : find place_cmp q (keyed (known_at ks os)) ≡ cond (list_any (is_at (place_cmp q)) os) (known_there (find path_cmp q.1 ks) q.0) None = find_listed ks q os in
    elim (is_eq (place_cmp q o)) as (λ b. is_eq (place_cmp q o) ≡ b → find place_cmp q (keyed (add_known o.1 (known_there (find path_cmp o.1 ks) o.0) (known_at ks os))) ≡ cond (b || list_any (is_at (place_cmp q)) os) (known_there (find path_cmp q.1 ks) q.0) None) [
      | true ↦ λ same.
          let own : q ≡ o = place_exact q o (is_equal (place_cmp q o) same) in
          subst (λ r. find place_cmp q (keyed (add_known r.1 (known_there (find path_cmp r.1 ks) r.0) (known_at ks os))) ≡ known_there (find path_cmp q.1 ks) q.0) own (here ks q o os (find path_cmp q.1 ks) (itself q) rest)
      | false ↦ λ other. passed ks q o os (find path_cmp o.1 ks) other ∙ rest
    ] refl

-- ---- the order lists what is known by its last change

module _ (ks : Knowns) (os : List Place) (n : ℕ) (within : (p : Path) (x : Known) → find path_cmp p ks ≡ Some x → (0 < x.last) × (x.last ≤ n)) (placed : (p : Path) (x : Known) → find path_cmp p ks ≡ Some x → list_any (is_at (place_cmp (max_counter - x.last, p))) os ≡ true) where
  agree : (q : Place) (f : Option Known) → find path_cmp q.1 ks ≡ f → cond (list_any (is_at (place_cmp q)) os) (known_there f q.0) None ≡ up_to_tick n f q.0
  agree q None e = only_none (list_any (is_at (place_cmp q)) os)
  agree q (Some x) e =
      let low : 0 < x.last = (within q.1 x e).0 in
      let high : x.last ≤ n = (within q.1 x e).1 in
      elim (is_eq (nat_cmp q.0 (max_counter - x.last))) as (λ b. is_eq (nat_cmp q.0 (max_counter - x.last)) ≡ b → cond (list_any (is_at (place_cmp q)) os) (cond b (Some x) None) None ≡ cond (nat_lt 0 x.last && nat_le x.last n) (cond b (Some x) None) None) [
        | true ↦ λ t.
            ap (λ b. cond b (Some x) None) (subst (λ b. list_any (is_at (place_cmp (b, q.1))) os ≡ true) (sym (own_place q x t)) (placed q.1 x e))
            ∙ sym (λ i. cond (lt-ltb 0 x.last low i && le-leb x.last n high i) (Some x) None)
        | false ↦ λ _. only_none (list_any (is_at (place_cmp q)) os) ∙ sym (only_none (nat_lt 0 x.last && nat_le x.last n))
      ] refl

pub listed_by_last : (ks : Knowns) (os : List Place) (n : ℕ) → T (is_sorted path_cmp ks) → IsStrictlySortedBy place_cmp os → n ≤ max_counter
    → ((p : Path) (x : Known) → find path_cmp p ks ≡ Some x → (0 < x.last) × (x.last ≤ n))
    → ((p : Path) (x : Known) → find path_cmp p ks ≡ Some x → list_any (is_at (place_cmp (max_counter - x.last, p))) os ≡ true)
    → known_at ks os ≡ by_last ks n
listed_by_last ks os n s o l within placed =
    sym (there_and_back (known_at ks os))
    ∙ ap unkeyed (same_entries place_cmp place_total place_exact (keyed (known_at ks os)) (keyed (by_last ks n)) (sorted_listed ks os o) (sorted_by_last n ks l s) (λ q. find_listed ks q os ∙ agree ks os n within placed q (find path_cmp q.1 ks) refl ∙ sym (find_by_last q n ks s)))
    ∙ there_and_back (by_last ks n)
