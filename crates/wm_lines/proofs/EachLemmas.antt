-- Reading each item of an array in turn.
use Rattle.std.proofs.Common.{◌≡◌, ℕ, zero, suc, Bool, ◌&&◌, arith, ◌+◌, ◌<◌, ◌≤◌, List, [], ◌∷◌, ◌++◌, length, get_or, drop, refl, sym, ap, ◌∙◌, append_assoc, add-one, true, false}
use Rattle.std.specs.Prelude.{Option, Some, None, option_map, option_and_then, String}
use Rattle.std.specs.List.{list_all}
use Rattle.std.specs.declared.alloc.Global.{Global}
use Rattle.std.proofs.Math.Seq.{drop-cons}
use Rattle.std.proofs.lemmas.List.{drop_all, append-nil}
use Rattle.serde_json.specs.Data.{Data}
use Rattle.serde_json.specs.View.{view, items_view, members_view}
use Rattle.serde_json.specs.declared.value.Value.{Value}
use Rattle.wm_lines.specs.Keys.{members_len}
use Rattle.wm_names.specs.Paths.{Path}
use Rattle.std.specs.Borrow.{Bor}
use Rattle.wm_expr.specs.Readings.{each}
use Rattle.wm_lines.specs.PairLines.{by_text}

pub members_len-view : (es : List (String Global × Value)) → members_len (members_view es) ≡ length es
members_len-view [] = refl
members_len-view (e ∷ es) = ap suc (members_len-view es)

pub open_drop : {X : Type 0} (xs : List X) (i : ℕ) (x : X) → i < length xs → x ≡ get_or xs i x → drop i xs ≡ x ∷ drop (i + 1) xs
open_drop {X} xs i x h e =
    drop-cons xs i x h ∙ (ap (λ (y : X). y ∷ drop (suc i) xs) (sym e) ∙ ap (λ (n : ℕ). x ∷ drop n xs) (sym (add-one i)))

-- what was read before, and the rest
abbrev pub put_before : {A : Type 0} → List A → Option (List A) → Option (List A)
put_before front r = option_map (λ rest. front ++ rest) r

regroup : {A : Type 0} (front : List A) (a : A) (o : Option (List A)) → put_before front (option_map (λ rest. a ∷ rest) o) ≡ put_before (front ++ a ∷ []) o
regroup front a None = refl
regroup front a (Some rest) = ap (λ l. Some l) (sym (append_assoc front (a ∷ []) rest))

module _ {A : Type 0} (f : Data → Option A) (xs : List Value) (i : ℕ) where
  each_at : (x : Value) → i < length xs → x ≡ get_or xs i x
      → each f (items_view (drop i xs)) ≡ option_and_then (λ a. option_map (λ rest. a ∷ rest) (each f (items_view (drop (i + 1) xs)))) (f (view x))
  each_at x h e = ap (λ (l : List Value). each f (items_view l)) (open_drop xs i x h e)

  pub each_step : (x : Value) (front : List A) (a : A) (r : Option (List A)) → i < length xs → x ≡ get_or xs i x → f (view x) ≡ Some a
      → r ≡ put_before front (each f (items_view (drop i xs))) → r ≡ put_before (front ++ a ∷ []) (each f (items_view (drop (i + 1) xs)))
  each_step x front a r h e s before =
      let rest : Option (List A) = each f (items_view (drop (i + 1) xs)) in
      before ∙ (ap (λ (o : Option (List A)). put_before front o) (each_at x h e ∙ ap (λ (o : Option A). option_and_then (λ (b : A). option_map (λ (l : List A). b ∷ l) rest) o) s)
      ∙ regroup front a rest)

  pub each_fail : (x : Value) (front : List A) (r : Option (List A)) → i < length xs → x ≡ get_or xs i x → f (view x) ≡ None
      → r ≡ put_before front (each f (items_view (drop i xs))) → r ≡ None
  each_fail x front r h e s before =
      let rest : Option (List A) = each f (items_view (drop (i + 1) xs)) in
      before ∙ ap (λ (o : Option (List A)). put_before front o) (each_at x h e ∙ ap (λ (o : Option A). option_and_then (λ (b : A). option_map (λ (l : List A). b ∷ l) rest) o) s)

  pub each_end : (front : List A) (r : Option (List A)) → length xs ≤ i → r ≡ put_before front (each f (items_view (drop i xs))) → r ≡ Some front
  each_end front r h before =
      before ∙ (ap (λ (l : List Value). put_before front (each f (items_view l))) (drop_all i xs h) ∙ ap (λ (l : List A). Some l) (append-nil front))

pub all_fails : {X : Type 0} (p : X → Bool) (xs : List X) (i : ℕ) (d : X) → i < length xs → p (get_or xs i d) ≡ false → list_all p xs ≡ false
all_fails p [] i d h e = absurd (omega arith)
all_fails p (x ∷ xs) zero d h e = ap (λ (b : Bool). b && list_all p xs) e
all_fails p (x ∷ xs) (suc i) d h e =
    let rest : list_all p xs ≡ false = all_fails p xs i d (omega arith) e in
    elim (p x) as (λ b. (b && list_all p xs) ≡ false) [ true ↦ rest | false ↦ refl ]

all-by_text : {A : Type 0} (p : Path → Bool) (xs : List (Bor (List ℕ) × A)) → list_all (λ (e : Path × A). p e.0) (by_text xs) ≡ list_all (λ (y : Bor (List ℕ) × A). p y.0.now) xs
all-by_text p [] = refl
all-by_text p (x ∷ xs) = ap (λ (b : Bool). p x.0.now && b) (all-by_text p xs)

pub text_fails : {A : Type 0} (p : Path → Bool) (xs : List (Bor (List ℕ) × A)) (i : ℕ) (d : Bor (List ℕ) × A) → i < length xs → p (get_or xs i d).0.now ≡ false
    → list_all (λ (e : Path × A). p e.0) (by_text xs) ≡ false
text_fails {A} p xs i d h e = all-by_text p xs ∙ all_fails (λ (y : Bor (List ℕ) × A). p y.0.now) xs i d h e
