-- What is left of so many terms behind those of a value, part by part.
use Rattle.std.proofs.Common.{◌≡◌, ℕ, add-one, ◌+◌, ◌-◌, ◌<◌, ◌≤◌, Bool, true, false, cond, length, get_or, drop, List, ◌∷◌, refl, sym, ap, ap₂, ◌∙◌, ◌⊎◌, inl, inr, arith}
use Rattle.std.specs.Prelude.{◌&&◌, nat_le, Option, Some, None, is_some, option_map, option_and_then, codes}
use Rattle.std.proofs.Math.Seq.{drop-cons}
use Rattle.std.proofs.lemmas.Bool.{leb-true, leb-false, le-leb, lt-leb}
use Rattle.serde_json.specs.Data.{Data, Items, item}
use Rattle.serde_json.specs.View.{items_view, view}
use Rattle.serde_json.specs.declared.value.Value.{Value}
use Rattle.wm_expr.specs.Limits.{count, count_all, deepest, depth, keeps_limits, max_depth, max_terms, taken_from}
use Rattle.wm_expr.specs.Readings.{joined, kept, term_of, terms_of}
use Rattle.wm_expr.specs.Terms.{Term, Always, Never, Not, AllOf, AnyOf, Name, Suffix, OfType, Exists, Empty, Size, Match, Terms, more}
use Rattle.wm_expr.specs.Within.{all_within, left_by, left_by_all, not_within, read_within, terms_within, within, word_within}
use Rattle.wm_expr.proofs.Runs.{both_ways}
use Rattle.wm_expr.proofs.Within.{both_le, on_one, one_more, round}

-- ---- taking numbers

one_taken : (room n : ℕ) → taken_from (room + 1) (n + 1) ≡ taken_from room n
one_taken room n = ap₂ (λ (b : Bool) (m : ℕ). cond b (Some m) None) (one_more n room) (omega arith)

both_taken : (room a b : ℕ) → taken_from room (a + b) ≡ option_and_then (λ left. taken_from left b) (taken_from room a)
both_taken room a b =
    elim (nat_le a room) as (λ v. nat_le a room ≡ v → taken_from room (a + b) ≡ option_and_then (λ left. taken_from left b) (cond v (Some (room - a)) None)) [
      | true ↦ λ h. (let le : a ≤ room = leb-true a room h in
          let same : nat_le (a + b) room ≡ nat_le b (room - a) =
          both_ways (nat_le (a + b) room) (nat_le b (room - a))
          (λ e. (let f : a + b ≤ room = leb-true (a + b) room e in le-leb b (room - a) (omega arith)))
          (λ e. (let f : b ≤ room - a = leb-true b (room - a) e in le-leb (a + b) room (omega arith))) in
          ap₂ (λ (c : Bool) (m : ℕ). cond c (Some m) None) same (omega arith))
      | false ↦ λ h. (let over : room < a = leb-false a room h in
          ap (λ (c : Bool). cond c (Some (room - (a + b))) None) (lt-leb (a + b) room (omega arith)))
    ] refl

abbrev nothing : ℕ → Option ℕ
nothing n = None

none_left : (o : Option ℕ) → None ≡ option_and_then nothing o
none_left None = refl
none_left (Some n) = refl

-- ---- lists of terms

first_and_others : (levels room : ℕ) (o : Option Term) (p : Option Terms)
    → left_by_all room (all_within levels (joined o p)) ≡ option_and_then (λ left. left_by_all left (all_within levels p)) (left_by room (within levels o))
first_and_others levels room None p = refl
first_and_others levels room (Some x) None = none_left (left_by room (within levels (Some x)))
first_and_others levels room (Some x) (Some xs) =
    ap (λ (b : Bool). left_by_all room (cond b (Some (more x xs)) None)) (both_le (depth x) (deepest xs) levels)
    ∙ (elim (nat_le (depth x) levels) as (λ v. left_by_all room (cond (v && nat_le (deepest xs) levels) (Some (more x xs)) None)
    ≡ option_and_then (λ left. left_by_all left (cond (nat_le (deepest xs) levels) (Some xs) None)) (left_by room (cond v (Some x) None))) [
      | true ↦ elim (nat_le (deepest xs) levels) as (λ w. left_by_all room (cond w (Some (more x xs)) None) ≡ option_and_then (λ left. left_by_all left (cond w (Some xs) None)) (taken_from room (count x)))
          [ true ↦ both_taken room (count x) (count_all xs) | false ↦ none_left (taken_from room (count x)) ]
      | false ↦ refl
    ])

pub left_by_more : (levels room : ℕ) (d : Data) (ds : Items) → left_by_all room (terms_within levels (item d ds)) ≡ option_and_then (λ left. left_by_all left (terms_within levels ds)) (left_by room (read_within levels d))
left_by_more levels room d ds = first_and_others levels room (term_of d) (terms_of ds)

-- the parts from place i on
pub left_at : (levels room : ℕ) (parts : List Value) (i : ℕ) (v : Value) → i < length parts → v ≡ get_or parts i v
    → left_by_all room (terms_within levels (items_view (drop i parts))) ≡ option_and_then (λ left. left_by_all left (terms_within levels (items_view (drop (i + 1) parts)))) (left_by room (read_within levels (view v)))
left_at levels room parts i v inside is =
    let opened : drop i parts ≡ v ∷ drop (i + 1) parts = drop-cons parts i v inside ∙ ap₂ (λ (x : Value) (n : ℕ). x ∷ drop n parts) (sym is) (sym (add-one i)) in
    ap (λ (vs : List Value). left_by_all room (terms_within levels (items_view vs))) opened ∙ left_by_more levels room (view v) (items_view (drop (i + 1) parts))

-- ---- terms that hold others

module _ (f : Terms → Term) (deeper : (xs : Terms) → depth (f xs) ≡ deepest xs + 1) (longer : (xs : Terms) → count (f xs) ≡ count_all xs + 1) where
  left_round : (room : ℕ) (p : Option Terms) → left_by (room + 1) (option_map f p) ≡ left_by_all room p
  left_round room None = refl
  left_round room (Some xs) = ap (taken_from (room + 1)) (longer xs) ∙ one_taken room (count_all xs)

  left_by_each : (levels room : ℕ) (ds : Items) → left_by (room + 1) (within (levels + 1) (option_map f (terms_of ds))) ≡ left_by_all room (terms_within levels ds)
  left_by_each levels room ds = ap (left_by (room + 1)) (round f deeper levels (terms_of ds)) ∙ left_round room (terms_within levels ds)

pub left_by_list : (levels room : ℕ) (word : List ℕ) (ds : Items) → (word ≡ codes "allof") ⊎ (word ≡ codes "anyof") → left_by (room + 1) (word_within levels word ds) ≡ left_by_all room (terms_within levels ds)
left_by_list levels room word ds (inl all) = ap (λ (w : List ℕ). left_by (room + 1) (word_within levels w ds)) all ∙ left_by_each AllOf (λ xs. refl) (λ xs. refl) levels room ds
left_by_list levels room word ds (inr any) = ap (λ (w : List ℕ). left_by (room + 1) (word_within levels w ds)) any ∙ left_by_each AnyOf (λ xs. refl) (λ xs. refl) levels room ds

left_by_not : (room : ℕ) (o : Option Term) → left_by (room + 1) (option_map Not o) ≡ left_by room o
left_by_not room None = refl
left_by_not room (Some x) = one_taken room (count x)

pub left_by_one : (levels room : ℕ) (parts : List Value) (v : Value) → 1 ≤ length parts → length parts < 2 → v ≡ get_or parts 0 v
    → left_by (room + 1) (not_within levels (items_view parts)) ≡ left_by room (read_within levels (view v))
left_by_one levels room parts v some few is =
    ap (left_by (room + 1)) (on_one levels parts v (read_within levels (view v)) some few is refl) ∙ left_by_not room (read_within levels (view v))

-- ---- the limits of an expression

count_some : (x : Term) → 1 ≤ count x
count_some Always = omega arith
count_some Never = omega arith
count_some (Not x) = omega arith
count_some (AllOf xs) = omega arith
count_some (AnyOf xs) = omega arith
count_some (Name names scope) = omega arith
count_some (Suffix suffixes) = omega arith
count_some (OfType kind) = omega arith
count_some Exists = omega arith
count_some Empty = omega arith
count_some (Size op n) = omega arith
count_some (Match pattern scope) = omega arith

pub no_room : (room : ℕ) (o : Option Term) → room < 1 → left_by room o ≡ None
no_room room None h = refl
no_room room (Some x) h =
    let some = count_some x in
    ap (λ (b : Bool). cond b (Some (room - count x)) None) (lt-leb (count x) room (omega arith))

pub within_limits : (o : Option Term) → is_some (left_by max_terms (within max_depth o)) ≡ is_some (kept keeps_limits o)
within_limits None = refl
within_limits (Some x) =
    elim (nat_le (depth x) max_depth) as (λ v. is_some (left_by max_terms (cond v (Some x) None)) ≡ is_some (cond (v && nat_le (count x) max_terms) (Some x) None)) [
      | true ↦ elim (nat_le (count x) max_terms) as (λ w. is_some (cond w (Some (max_terms - count x)) None) ≡ is_some (cond w (Some x) None)) [ true ↦ refl | false ↦ refl ]
      | false ↦ refl
    ]
