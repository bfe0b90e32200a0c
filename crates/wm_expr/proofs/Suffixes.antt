-- Names that end with a dot and a suffix.
use Rattle.std.proofs.Common.{◌≡◌, ℕ, suc, ◌+◌, ◌-◌, ◌<◌, ◌≤◌, add-one, eq-eqb, ap₂, Bool, true, false, List, [], ◌∷◌, length, map, drop, get_or, refl, sym, ap, ◌∙◌, arith}
use Rattle.std.specs.Prelude.{◌&&◌}
use Rattle.std.specs.Char.{eq_ignore_ascii_case, to_ascii_lowercase}
use Rattle.std.specs.Cmp.Lexicographic.{pointwise}
use Rattle.std.proofs.Math.Seq.{drop-cons}
use Rattle.std.proofs.lemmas.Bool.{eqb-true}
use Rattle.wm_expr.specs.Meanings.{has_suffix}
use Rattle.wm_expr.proofs.Runs.{and_left, and_right, both_ways}

shorter : (xs ys : List ℕ) → length ys < length xs → pointwise eq_ignore_ascii_case xs ys ≡ false
shorter [] ys h = absurd (omega arith)
shorter (x ∷ xs) [] h = refl
shorter (x ∷ xs) (y ∷ ys) h = rw (shorter xs ys (omega arith)) (and_false (eq_ignore_ascii_case x y))
  where
    and_false : (b : Bool) → (b && false) ≡ false
    and_false true = refl
    and_false false = refl

pub too_short : (name suffix : List ℕ) → length name ≤ length suffix → false ≡ has_suffix name suffix
too_short name suffix h =
    let none : length name - suc (length suffix) ≡ 0 = omega arith in
    sym (ap (λ (k : ℕ). pointwise eq_ignore_ascii_case (46 ∷ suffix) (drop k name)) none ∙ shorter (46 ∷ suffix) name (omega arith))

-- ---- letters of both cases

same_letters : (xs ys : List ℕ) → pointwise eq_ignore_ascii_case xs ys ≡ true → map to_ascii_lowercase ys ≡ map to_ascii_lowercase xs
same_letters [] [] h = refl
same_letters [] (y ∷ ys) h = cc
same_letters (x ∷ xs) [] h = cc
same_letters (x ∷ xs) (y ∷ ys) h =
    let first : to_ascii_lowercase x ≡ to_ascii_lowercase y = eqb-true _ _ (and_left (eq_ignore_ascii_case x y) (pointwise eq_ignore_ascii_case xs ys) h) in
    let rest = same_letters xs ys (and_right (eq_ignore_ascii_case x y) (pointwise eq_ignore_ascii_case xs ys) h) in
    ap₂ (λ (a : ℕ) (others : List ℕ). a ∷ others) (sym first) rest

as_letters : (xs ys : List ℕ) → map to_ascii_lowercase ys ≡ map to_ascii_lowercase xs → pointwise eq_ignore_ascii_case xs ys ≡ true
as_letters [] [] h = refl
as_letters [] (y ∷ ys) h = cc
as_letters (x ∷ xs) [] h = cc
as_letters (x ∷ xs) (y ∷ ys) h =
    let first : to_ascii_lowercase x ≡ to_ascii_lowercase y = cc in
    let rest : map to_ascii_lowercase ys ≡ map to_ascii_lowercase xs = cc in
    let test : eq_ignore_ascii_case x y ≡ true = eq-eqb _ _ first in
    rw (test, as_letters xs ys rest) refl

-- what the test of the letters behind a dot says
pub ending : (name suffix rest : List ℕ) (r : Bool) → length suffix < length name → get_or name (length name - length suffix - 1) 0 ≡ 46
    → rest ≡ drop (length name - length suffix - 1 + 1) name → (r ≡ true → map to_ascii_lowercase rest ≡ map to_ascii_lowercase suffix)
    → (map to_ascii_lowercase rest ≡ map to_ascii_lowercase suffix → r ≡ true) → r ≡ has_suffix name suffix
ending name suffix rest r long dot is f g =
    let k : ℕ = length name - length suffix - 1 in
    let place : length name - suc (length suffix) ≡ k = omega arith in
    let inside : k < length name = omega arith in
    let opened : drop k name ≡ 46 ∷ rest = drop-cons name k 0 inside ∙ ap₂ (λ (b : ℕ) (bs : List ℕ). b ∷ bs) dot (ap (λ (n : ℕ). drop n name) (sym (add-one k)) ∙ sym is) in
    let whole : has_suffix name suffix ≡ pointwise eq_ignore_ascii_case suffix rest =
    ap (λ (n : ℕ). pointwise eq_ignore_ascii_case (46 ∷ suffix) (drop n name)) place ∙ ap (λ (bs : List ℕ). pointwise eq_ignore_ascii_case (46 ∷ suffix) bs) opened in
    both_ways r (pointwise eq_ignore_ascii_case suffix rest) (λ e. as_letters suffix rest (f e)) (λ e. g (same_letters suffix rest e)) ∙ sym whole
