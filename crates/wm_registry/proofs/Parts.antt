-- Bytes that are written one part after another, and what holds where a test says so.
use Rattle.std.proofs.Common.{◌≡◌, ℕ, ◌≤◌, Bool, true, false, List, ◌++◌, length, take, drop, sym, ap, ◌∙◌, append_assoc, arith}
use Rattle.std.proofs.Math.Seq.{take-append_seam}
use Rattle.std.proofs.lemmas.List.{length-append, take-append-le, take-append-drop}
use Rattle.std.specs.Bool.{OnTrue, OnFalse}

pub on_true : (r : Bool) {A B : Type 0} → (A → B) → OnTrue r A → OnTrue r B
on_true true f h = f h
on_true false f h = tt

pub on_false : (r : Bool) {A B : Type 0} → (A → B) → OnFalse r A → OnFalse r B
on_false true f h = tt
on_false false f h = f h

-- three parts behind one another
pub three_parts : (old a b c first second third : List ℕ) → first ≡ old ++ a → second ≡ first ++ b → third ≡ second ++ c → third ≡ old ++ (a ++ (b ++ c))
three_parts old a b c first second third p q r =
    r ∙ ap (λ l. l ++ c) (q ∙ ap (λ l. l ++ b) p) ∙ append_assoc (old ++ a) b c ∙ append_assoc old a (b ++ c)

-- four of them
pub four_parts : (old a b c d first second third fourth : List ℕ) → first ≡ old ++ a → second ≡ first ++ b → third ≡ second ++ c → fourth ≡ third ++ d → fourth ≡ old ++ (a ++ (b ++ (c ++ d)))
four_parts old a b c d first second third fourth p q r s =
    three_parts old a b (c ++ d) first second fourth p q (s ∙ ap (λ l. l ++ d) r ∙ append_assoc second c d)

-- what stood in front of the first parts stands there still
pub front_kept : (old a b c first second third new : List ℕ) → first ≡ old ++ a → second ≡ first ++ b → third ≡ second ++ c → take (length third) new ≡ third → take (length old) new ≡ old
front_kept old a b c first second third new p q r kept =
    let whole : third ≡ old ++ (a ++ (b ++ c)) = three_parts old a b c first second third p q r in
    let long : length old ≤ length third = omega (arith, ap length whole, length-append old (a ++ (b ++ c))) in
    let within : length old ≤ length (take (length third) new) = omega (arith, long, ap length kept) in
    ap (take (length old)) (sym (take-append-drop (length third) new)) ∙ take-append-le (length old) (take (length third) new) (drop (length third) new) within
    ∙ ap (take (length old)) (kept ∙ whole) ∙ take-append_seam old (a ++ (b ++ c))
