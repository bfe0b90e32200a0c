-- Whether two commands or calls are one.
use Rattle.std.proofs.Common.{◌≡◌, ◌≢◌, ℕ, true, false, true≢false, List, [], ◌∷◌, ap, sym, ◌∙◌, refl, ⊎_elim}
use mathlib.Core.Bool.{beq}
use Rattle.std.proofs.lemmas.Slice.Eq.{bytes_eq-Decides}
use Rattle.std.proofs.lemmas.Bool.{cases_Bool, eqb-true}
use Rattle.std.proofs.lemmas.Cmp.{nat_eq_equiv}
use Rattle.std.specs.Option.{option_eq}
use Rattle.std.specs.Prelude.{Bool, Option, Some, None, ◌==◌, MatchBool, not, ◌&&◌}
use Rattle.std.specs.Str.{bytes_eq}
use Rattle.std.specs.Cmp.Lexicographic.{pointwise}
use Rattle.wm_registry.specs.Triggers.{Definition}

pub bytes_self : (a : List ℕ) → bytes_eq a a ≡ true
bytes_self a = (bytes_eq-Decides a a).1 refl

pub words_self : (a : List (List ℕ)) → pointwise bytes_eq a a ≡ true
words_self [] = refl
words_self (x ∷ xs) = rw (bytes_self x) (words_self xs)

pub told_bytes : (a b : List ℕ) (r : Bool) → r ≡ bytes_eq a b → MatchBool r (a ≡ b) (a ≢ b)
told_bytes a b true e = (bytes_eq-Decides a b).0 (sym e)
told_bytes a b false e = λ h. true≢false (sym (bytes_self a) ∙ ap (bytes_eq a) h ∙ sym e)

pub told_some : (a b : List ℕ) (r : Bool) → r ≡ bytes_eq a b → MatchBool r (Some a ≡ Some b) (Some a ≢ Some b)
told_some a b true e = ap (λ t. Some t) ((bytes_eq-Decides a b).0 (sym e))
told_some a b false e = λ h. true≢false (sym (bytes_self a) ∙ ap (bytes_eq a) (cc) ∙ sym e)

pub told_trigger : (a b : Definition) (r : Bool) → a.name ≡ b.name → a.command ≡ b.command → a.expression ≡ b.expression → a.append_files ≡ b.append_files → a.max_files_stdin ≡ b.max_files_stdin → MatchBool r (a.stdin ≡ b.stdin) (a.stdin ≢ b.stdin) → MatchBool r (a ≡ b) (a ≢ b)
told_trigger a b true n c e f m s = λ i. record { name = n i; command = c i; expression = e i; append_files = f i; stdin = s i; max_files_stdin = m i }
told_trigger a b false n c e f m s = λ h. s (ap (λ d. d.stdin) h)

pub same_bytes : (a b : List ℕ) → false ≡ not (bytes_eq a b) → a ≡ b
same_bytes a b e = ⊎_elim (λ y. (bytes_eq-Decides a b).0 y) (λ n. absurd (true≢false (sym (e ∙ ap not n)))) (cases_Bool (bytes_eq a b))

pub same_words : (a b : List (List ℕ)) → false ≡ not (pointwise bytes_eq a b) → a ≡ b
same_words a b e = ⊎_elim (λ y. by a b y) (λ n. absurd (true≢false (sym (e ∙ ap not n)))) (cases_Bool (pointwise bytes_eq a b))
  where
    by : (a b : List (List ℕ)) → pointwise bytes_eq a b ≡ true → a ≡ b
    by [] [] h = refl
    by [] (y ∷ ys) h = absurd (true≢false (sym h))
    by (x ∷ xs) [] h = absurd (true≢false (sym h))
    by (x ∷ xs) (y ∷ ys) h = ⊎_elim
        (λ (q : bytes_eq x y ≡ true). λ i. (bytes_eq-Decides x y).0 q i ∷ by xs ys (sym (ap (λ b. b && pointwise bytes_eq xs ys) q) ∙ h) i)
        (λ (q : bytes_eq x y ≡ false). absurd (true≢false (sym (sym (ap (λ b. b && pointwise bytes_eq xs ys) q) ∙ h))))
        (cases_Bool (bytes_eq x y))

pub same_flags : (a b : Bool) → not (beq a b) ≡ false → a ≡ b
same_flags true true e = refl
same_flags true false e = absurd (true≢false e)
same_flags false true e = absurd (true≢false e)
same_flags false false e = refl

pub count_self : (a : Option ℕ) → option_eq ◌==◌ a a ≡ true
count_self None = refl
count_self (Some n) = nat_eq_equiv.refl n

pub same_counts : (a b : Option ℕ) → false ≡ not (option_eq ◌==◌ a b) → a ≡ b
same_counts None None e = refl
same_counts None (Some y) e = absurd (true≢false (sym e))
same_counts (Some x) None e = absurd (true≢false (sym e))
same_counts (Some x) (Some y) e = ⊎_elim (λ h. ap (λ n. Some n) (eqb-true x y h)) (λ n. absurd (true≢false (sym (e ∙ ap not n)))) (cases_Bool (x == y))
