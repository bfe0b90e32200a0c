-- Lists of names, and the fields that they name.
use Rattle.std.proofs.Common.{◌≡◌, ℕ, ◌<◌, Bool, true, false, ◌&&◌, ◌||◌, cond, List, [], ◌∷◌, length, nat_lt, map, filter, Bor, Some, is_some, refl, sym, ap, ◌∙◌, arith, true≢false, lt-ltb}
use Rattle.std.proofs.lemmas.List.{length-map}
use Rattle.std.proofs.lemmas.List.Folds.{list_all-map}
use Rattle.std.specs.List.{find, list_all, list_any}
use Rattle.std.specs.Str.{bytes_eq}
use Rattle.std.specs.Cmp.Lexicographic.{slice_cmp}
use Rattle.std.specs.Ordering.{is_lt, nat_cmp}
use Rattle.wm_disk.specs.laws.Tests.{both_first, both_second}
use Rattle.wm_since.specs.declared.field.Field.{Field}
use Rattle.wm_since.specs.Fields.{are_distinct, are_fields, are_known, by_name, field_of, are_ordered, is_among, is_before, field_name}

list_any-map : {X Y : Type 0} (p : X → Bool) (h : Y → X) (ys : List Y) → list_any p (map h ys) ≡ list_any (λ y. p (h y)) ys
list_any-map p h [] = refl
list_any-map p h (y ∷ ys) = ap (λ b. p (h y) || b) (list_any-map p h ys)

-- the texts behind references
abbrev texts : List (Bor (List ℕ)) → List (List ℕ)
texts names = map (λ n. n.now) names

module _ (names : List (Bor (List ℕ))) (some : 0 < length names) where
  pos : nat_lt 0 (length (texts names)) ≡ true
  pos = lt-ltb 0 (length (texts names)) (omega (arith, length-map names (λ (n : Bor (List ℕ)). n.now)))

  pub all_known : (apart : Bool) → list_all (λ n. is_some (field_of n.now)) names ≡ true → apart ≡ are_distinct (texts names) → apart ≡ are_fields (texts names)
  all_known apart known is =
      is ∙ sym (ap (λ b. b && (are_known (texts names) && are_distinct (texts names))) pos
      ∙ ap (λ b. b && are_distinct (texts names)) (list_all-map (λ n. is_some (field_of n)) (λ n. n.now) names ∙ known))

  pub one_unknown : list_all (λ n. is_some (field_of n.now)) names ≡ false → false ≡ are_fields (texts names)
  one_unknown unknown =
      sym (ap (λ b. b && (are_known (texts names) && are_distinct (texts names))) pos
      ∙ ap (λ b. b && are_distinct (texts names)) (list_all-map (λ n. is_some (field_of n)) (λ n. n.now) names ∙ unknown))

pub among : (name : List ℕ) (names : List (Bor (List ℕ))) → list_any (λ n. bytes_eq n.now name) names ≡ is_among name (texts names)
among name names = sym (list_any-map (λ n. bytes_eq n name) (λ n. n.now) names)

-- ---- the order of a part of a list is that of the list

before-filter : (p : Field → Bool) (x : Field) (fields : List Field) → is_before x fields ≡ true → is_before x (filter p fields) ≡ true
before-filter p x [] h = refl
before-filter p x (y ∷ fields) h =
    let here = both_first (is_lt (slice_cmp nat_cmp (field_name x) (field_name y))) (is_before x fields) h in
    let later = before-filter p x fields (both_second (is_lt (slice_cmp nat_cmp (field_name x) (field_name y))) (is_before x fields) h) in
    elim (p y) as (λ b. is_before x (cond b (y ∷ filter p fields) (filter p fields)) ≡ true) [
      | true ↦ ap (λ b. b && is_before x (filter p fields)) here ∙ later
      | false ↦ later
    ]

pub in_order-filter : (p : Field → Bool) (fields : List Field) → are_ordered fields ≡ true → are_ordered (filter p fields) ≡ true
in_order-filter p [] h = refl
in_order-filter p (x ∷ fields) h =
    let here = before-filter p x fields (both_first (is_before x fields) (are_ordered fields) h) in
    let later = in_order-filter p fields (both_second (is_before x fields) (are_ordered fields) h) in
    elim (p x) as (λ b. are_ordered (cond b (x ∷ filter p fields) (filter p fields)) ≡ true) [
      | true ↦ ap (λ b. b && are_ordered (filter p fields)) here ∙ later
      | false ↦ later
    ]

-- ---- a known name names a field

some_if : (b : Bool) (x : Field) (fields : List Field) → 0 < length fields → 0 < length (cond b (x ∷ fields) fields)
some_if true x fields h = omega arith
some_if false x fields h = h

some_named : (n : List ℕ) (ns : List (List ℕ)) (fields : List Field) → is_some (find (λ x. bytes_eq n (field_name x)) fields) ≡ true → 0 < length (filter (λ x. is_among (field_name x) (n ∷ ns)) fields)
some_named n ns [] h = absurd (true≢false (sym h))
some_named n ns (x ∷ fields) h =
    elim (bytes_eq n (field_name x)) as (λ b. is_some (cond b (Some x) (find (λ x. bytes_eq n (field_name x)) fields)) ≡ true
    → 0 < length (cond (b || list_any (λ n. bytes_eq n (field_name x)) ns) (x ∷ filter (λ x. is_among (field_name x) (n ∷ ns)) fields) (filter (λ x. is_among (field_name x) (n ∷ ns)) fields))) [
      | true ↦ λ q. omega arith
      | false ↦ λ q. some_if (list_any (λ n. bytes_eq n (field_name x)) ns) x (filter (λ x. is_among (field_name x) (n ∷ ns)) fields) (some_named n ns fields q)
    ] h

pub some_fields : (names : List (List ℕ)) → are_fields names ≡ true → 0 < length (filter (λ x. is_among (field_name x) names) by_name)
some_fields [] h = absurd (true≢false (sym h))
some_fields (n ∷ ns) h =
    let rules : (are_known (n ∷ ns) && are_distinct (n ∷ ns)) ≡ true = both_second (nat_lt 0 (length (n ∷ ns))) (are_known (n ∷ ns) && are_distinct (n ∷ ns)) h in
    some_named n ns by_name (both_first (is_some (field_of n)) (are_known ns) (both_first (are_known (n ∷ ns)) (are_distinct (n ∷ ns)) rules))

pub part_in_order : (names : List (List ℕ)) → are_ordered (filter (λ x. is_among (field_name x) names) by_name) ≡ true
part_in_order names = in_order-filter (λ x. is_among (field_name x) names) by_name refl
