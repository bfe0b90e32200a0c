-- Reading terms of a bounded depth, part by part.
use Rattle.std.proofs.Common.{◌≡◌, ℕ, ◌+◌, ◌<◌, ◌≤◌, Bool, true, false, cond, max, length, get_or, List, [], ◌∷◌, refl, sym, ap, ◌∙◌, true≢false, arith}
use Rattle.std.specs.Prelude.{◌&&◌, nat_le, Option, Some, None, is_some, option_map, option_and_then}
use Rattle.std.proofs.Math.Dec.{leb-zero}
use Rattle.std.proofs.lemmas.Bool.{leb-true, le-leb, lt-leb}
use Rattle.serde_json.specs.Data.{Data, Items, no_items, item}
use Rattle.serde_json.specs.View.{items_view, view}
use Rattle.serde_json.specs.declared.value.Value.{Value}
use Rattle.wm_expr.specs.Limits.{count, deepest, depth, keeps_limits, max_depth, max_terms}
use Rattle.wm_expr.specs.Readings.{each, joined, kept, not_term, term_of, terms_of}
use Rattle.wm_expr.specs.Terms.{Term, Always, Never, Not, AllOf, AnyOf, Name, Suffix, OfType, Exists, Empty, Size, Match, Terms, no_more, more}
use Rattle.wm_expr.specs.Views.{as_terms}
use Rattle.wm_expr.specs.Within.{all_within, not_within, read_within, within}
use Rattle.wm_expr.proofs.Runs.{and_left, and_right, both_ways}

-- ---- tests on depths

pub both_le : (a b l : ℕ) → nat_le (max a b) l ≡ (nat_le a l && nat_le b l)
both_le a b l =
    both_ways (nat_le (max a b) l) (nat_le a l && nat_le b l)
    (λ h. (let le = leb-true (max a b) l h in rw (le-leb a l (omega arith), le-leb b l (omega arith)) refl))
    (λ h. (let p = leb-true a l (and_left (nat_le a l) (nat_le b l) h) in let q = leb-true b l (and_right (nat_le a l) (nat_le b l) h) in le-leb (max a b) l (omega arith)))

pub one_more : (a l : ℕ) → nat_le (a + 1) (l + 1) ≡ nat_le a l
one_more a l =
    both_ways (nat_le (a + 1) (l + 1)) (nat_le a l) (λ h. (let le = leb-true (a + 1) (l + 1) h in le-leb a l (omega arith))) (λ h. (let le = leb-true a l h in le-leb (a + 1) (l + 1) (omega arith)))

-- ---- lists of terms

-- one more part, with v and w for the tests on its depth and on that of the others
put_first : (x : Term) (xs : Terms) (v w : Bool) (es : Option (List Term)) → cond w (Some xs) None ≡ option_map as_terms es
    → cond (v && w) (Some (more x xs)) None ≡ option_map as_terms (option_and_then (λ y. option_map (λ ys. y ∷ ys) es) (cond v (Some x) None))
put_first x xs false w es h = refl
put_first x xs true true None h = cc
put_first x xs true true (Some es) h = let same : xs ≡ as_terms es = cc in ap (λ (ys : Terms). Some (more x ys)) same
put_first x xs true false None h = refl
put_first x xs true false (Some es) h = cc

none_behind : (x : Term) (v : Bool) (es : Option (List Term)) → None ≡ option_map as_terms es
    → None ≡ option_map as_terms (option_and_then (λ y. option_map (λ ys. y ∷ ys) es) (cond v (Some x) None))
none_behind x false es h = refl
none_behind x true None h = refl
none_behind x true (Some es) h = cc

joined_within : (levels : ℕ) (o : Option Term) (p : Option Terms) (es : Option (List Term)) → all_within levels p ≡ option_map as_terms es
    → all_within levels (joined o p) ≡ option_map as_terms (option_and_then (λ y. option_map (λ ys. y ∷ ys) es) (within levels o))
joined_within levels None p es h = refl
joined_within levels (Some x) None es h = none_behind x (nat_le (depth x) levels) es h
joined_within levels (Some x) (Some xs) es h =
    ap (λ (b : Bool). cond b (Some (more x xs)) None) (both_le (depth x) (deepest xs) levels) ∙ put_first x xs (nat_le (depth x) levels) (nat_le (deepest xs) levels) es h

parts_within : (levels : ℕ) (ds : Items) → all_within levels (terms_of ds) ≡ option_map as_terms (each (read_within levels) ds)
parts_within levels no_items = ap (λ (b : Bool). cond b (Some no_more) None) (leb-zero levels)
parts_within levels (item d ds) = joined_within levels (term_of d) (terms_of ds) (each (read_within levels) ds) (parts_within levels ds)

-- a term round parts is one deeper than the deepest
module _ (f : Terms → Term) (deeper : (xs : Terms) → depth (f xs) ≡ deepest xs + 1) where
  pub round : (levels : ℕ) (p : Option Terms) → within (levels + 1) (option_map f p) ≡ option_map f (all_within levels p)
  round levels None = refl
  round levels (Some xs) =
      ap (λ (b : Bool). cond b (Some (f xs)) None) (ap (λ (n : ℕ). nat_le n (levels + 1)) (deeper xs) ∙ one_more (deepest xs) levels)
      ∙ (elim (nat_le (deepest xs) levels) as (λ b. cond b (Some (f xs)) None ≡ option_map f (cond b (Some xs) None)) [ true ↦ refl | false ↦ refl ])

  round_each : (levels : ℕ) (ds : Items) (r : Option (List Term)) → each (read_within levels) ds ≡ r → within (levels + 1) (option_map f (terms_of ds)) ≡ option_map f (option_map as_terms r)
  round_each levels ds r e = round levels (terms_of ds) ∙ ap (option_map f) (parts_within levels ds ∙ ap (option_map as_terms) e)

pub all_of_each : (levels : ℕ) (ds : Items) (r : Option (List Term)) → each (read_within levels) ds ≡ r → within (levels + 1) (option_map AllOf (terms_of ds)) ≡ option_map AllOf (option_map as_terms r)
all_of_each levels ds r e = round_each AllOf (λ xs. refl) levels ds r e

pub any_of_each : (levels : ℕ) (ds : Items) (r : Option (List Term)) → each (read_within levels) ds ≡ r → within (levels + 1) (option_map AnyOf (terms_of ds)) ≡ option_map AnyOf (option_map as_terms r)
any_of_each levels ds r e = round_each AnyOf (λ xs. refl) levels ds r e

-- ---- `not`

not_round : (levels : ℕ) (o : Option Term) → within (levels + 1) (not_term (joined o (Some no_more))) ≡ option_map Not (within levels o)
not_round levels None = refl
not_round levels (Some x) =
    ap (λ (b : Bool). cond b (Some (Not x)) None) (one_more (depth x) levels)
    ∙ (elim (nat_le (depth x) levels) as (λ b. cond b (Some (Not x)) None ≡ option_map Not (cond b (Some x) None)) [ true ↦ refl | false ↦ refl ])

pub not_of_one : (levels : ℕ) (d : Data) (r : Option Term) → read_within levels d ≡ r → not_within levels (item d no_items) ≡ option_map Not r
not_of_one levels d r e = not_round levels (term_of d) ∙ ap (option_map Not) e

two_joined : (levels : ℕ) (o p : Option Term) (q : Option Terms) → within levels (not_term (joined o (joined p q))) ≡ None
two_joined levels None p q = refl
two_joined levels (Some x) None q = refl
two_joined levels (Some x) (Some y) None = refl
two_joined levels (Some x) (Some y) (Some ys) = refl

pub not_of_more : (levels : ℕ) (d e : Data) (ds : Items) → not_within levels (item d (item e ds)) ≡ None
not_of_more levels d e ds = two_joined (levels + 1) (term_of d) (term_of e) (terms_of ds)

-- ---- leaves

pub flat_within : (levels : ℕ) (o : Option Term) (x : Term) → o ≡ Some x → depth x ≡ 1 → within (levels + 1) o ≡ Some x
flat_within levels o x e flat =
    ap (within (levels + 1)) e ∙ ap (λ (b : Bool). cond b (Some x) None) (le-leb (depth x) (levels + 1) (omega arith))

-- ---- slices of values

pub on_one : (levels : ℕ) (parts : List Value) (v : Value) (r : Option Term) → 1 ≤ length parts → length parts < 2 → v ≡ get_or parts 0 v → read_within levels (view v) ≡ r
    → not_within levels (items_view parts) ≡ option_map Not r
on_one levels [] v r some few is e = absurd (omega arith)
on_one levels (p ∷ []) v r some few is e = not_of_one levels (view p) r (ap (λ (x : Value). read_within levels (view x)) (sym is) ∙ e)
on_one levels (p ∷ q ∷ ps) v r some few is e = absurd (omega arith)

pub on_more : (levels : ℕ) (parts : List Value) → 2 ≤ length parts → not_within levels (items_view parts) ≡ None
on_more levels [] h = absurd (omega arith)
on_more levels (p ∷ []) h = absurd (omega arith)
on_more levels (p ∷ q ∷ ps) h = not_of_more levels (view p) (view q) (items_view ps)

depth_some : (x : Term) → 1 ≤ depth x
depth_some Always = omega arith
depth_some Never = omega arith
depth_some (Not x) = omega arith
depth_some (AllOf xs) = omega arith
depth_some (AnyOf xs) = omega arith
depth_some (Name names scope) = omega arith
depth_some (Suffix suffixes) = omega arith
depth_some (OfType kind) = omega arith
depth_some Exists = omega arith
depth_some Empty = omega arith
depth_some (Size op n) = omega arith
depth_some (Match pattern scope) = omega arith

pub no_level : (levels : ℕ) (o : Option Term) → levels < 1 → within levels o ≡ None
no_level levels None h = refl
no_level levels (Some x) h =
    let some = depth_some x in
    ap (λ (b : Bool). cond b (Some x) None) (lt-leb (depth x) levels (omega arith))

-- ---- the limits of an expression

pub too_deep : (o : Option Term) → within max_depth o ≡ None → kept keeps_limits o ≡ None
too_deep None h = refl
too_deep (Some x) h =
    elim (nat_le (depth x) max_depth) as (λ v. cond v (Some x) None ≡ None → cond (v && nat_le (count x) max_terms) (Some x) None ≡ None) [ true ↦ λ e. cc | false ↦ λ e. refl ] h

pub is_none : {X : Type 0} (o : Option X) → is_some o ≡ false → o ≡ None
is_none None h = refl
is_none (Some x) h = absurd (true≢false h)

pub in_limits : (o : Option Term) (x : Term) → within max_depth o ≡ Some x → is_some (kept keeps_limits o) ≡ true → kept keeps_limits o ≡ Some x
in_limits None x h is = cc
in_limits (Some y) x h is =
    elim (nat_le (depth y) max_depth) as (λ v. cond v (Some y) None ≡ Some x → is_some (cond (v && nat_le (count y) max_terms) (Some y) None) ≡ true → cond (v && nat_le (count y) max_terms) (Some y) None ≡ Some x) [
      | true ↦ elim (nat_le (count y) max_terms) as (λ w. Some y ≡ Some x → is_some (cond w (Some y) None) ≡ true → cond w (Some y) None ≡ Some x) [ true ↦ λ e _. e | false ↦ λ e no. absurd (true≢false (sym no)) ]
      | false ↦ λ e no. cc
    ] h is
