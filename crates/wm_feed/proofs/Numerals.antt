-- Decimal digits, as they are read and as they are written.
use Rattle.std.proofs.Common.{◌≡◌, ◌⊎◌, inl, inr, ◌≢◌, ℕ, zero, suc, ◌<◌, ◌^◌, ◌==◌, true, not, [], ◌∷◌, length, get_or, Result, Ok, Err, Some, None, refl, sym, ap, subst, ◌∙◌, arith, eqb-true}
use Rattle.std.specs.Prelude.{◌||◌}
use Rattle.std.specs.Fmt.{decimal}
use Rattle.std.specs.Result.{OkIff, result_ok}
use Rattle.std.specs.Option.{IfSome}
use Rattle.std.specs.Str.Parse.{AllDigits, ParsesUnsigned, digits_value}
use Rattle.std.specs.Int.{IsInRange}
use Rattle.std.proofs.lemmas.Bool.{and_from, and_parts, eqb-false, ne_eqb, not-true, not_from_false, or_cases, or_left}
use Rattle.std.proofs.lemmas.Fmt.{decimal-digits_value, decimal_digit, digits_decimal, first_decimal}
use Rattle.std.proofs.lemmas.Str.Parse.{IsNumeralModel, numerals_by_value, parse_plain, tells_digits}
use Rattle.wm_feed.specs.Laws.{no_zero}
use Rattle.wm_feed.specs.Numbers.{is_plain}
use Rattle.wm_feed.specs.Records.{Bytes}

own : IsNumeralModel (AllDigits 10) (digits_value 10)
own = numerals_by_value (AllDigits 10) tells_digits

-- ---- what is written

first_plain : (ds : Bytes) → 48 < get_or ds 0 0 → is_plain ds ≡ true
first_plain [] h = refl
first_plain (b ∷ ds) h =
    and_from (not (b == 43)) (not (b == 48) || (length ds == 0))
    (not_from_false (b == 43) (ne_eqb b 43 (λ e. omega arith)))
    (or_left (not (b == 48)) (length ds == 0) (not_from_false (b == 48) (ne_eqb b 48 (λ e. omega arith))))

pub plain_decimal : (n : ℕ) → n < 2 ^ 64 → is_plain (decimal n) ≡ true
plain_decimal zero h = ap is_plain (decimal_digit 0 (omega arith))
plain_decimal (suc n) h = first_plain (decimal (suc n)) (first_decimal (suc n) (omega arith) h)

no_zero_digits : (ds : Bytes) → AllDigits 10 ds → no_zero ds ≡ true
no_zero_digits [] h = refl
no_zero_digits (b ∷ ds) h =
    let digit : IsInRange 48 57 b = (tells_digits.parts b ds h).0 in
    and_from (not (b == 0)) (no_zero ds) (not_from_false (b == 0) (ne_eqb b 0 (λ e. omega (arith, digit.0)))) (no_zero_digits ds h.1)

pub no_zero_decimal : (n : ℕ) → n < 2 ^ 64 → no_zero (decimal n) ≡ true
no_zero_decimal n h = no_zero_digits (decimal n) (digits_decimal own n h)

-- ---- what is read

no_plus : (bs : Bytes) → is_plain bs ≡ true → get_or bs 0 0 ≢ 43
no_plus [] h e = omega arith
no_plus (b ∷ ds) h e = eqb-false b 43 (not-true (b == 43) (and_parts (not (b == 43)) (not (b == 48) || (length ds == 0)) h).0) e

lone_zero : (bs : Bytes) → is_plain bs ≡ true → get_or bs 0 0 ≡ 48 → length bs ≡ 1
lone_zero [] h e = absurd (omega arith)
lone_zero (b ∷ ds) h e = by (or_cases (not (b == 48)) (length ds == 0) (and_parts (not (b == 43)) (not (b == 48) || (length ds == 0)) h).1)
  where
    by : (not (b == 48) ≡ true) ⊎ ((length ds == 0) ≡ true) → length (b ∷ ds) ≡ 1
    by (inl n) = absurd (eqb-false b 48 (not-true (b == 48) n) e)
    by (inr n) = let none : length ds ≡ 0 = eqb-true (length ds) 0 n in omega arith

read_decimal : {E : Type 0} (bs : Bytes) (r : Result ℕ E) (n : ℕ) → is_plain bs ≡ true → ParsesUnsigned 64 10 bs r → r ≡ Ok n → bs ≡ decimal n
read_decimal {E} bs r n h parses e =
    let iff : OkIff r (AllDigits 10 bs × (0 < length bs) × (digits_value 10 bs < 2 ^ 64)) (digits_value 10 bs) = parse_plain own 64 bs r parses (no_plus bs h) in
    let P : Result ℕ E → Type 0 = λ r'. OkIff r' (AllDigits 10 bs × (0 < length bs) × (digits_value 10 bs < 2 ^ 64)) (digits_value 10 bs) in
    let is : (AllDigits 10 bs × (0 < length bs) × (digits_value 10 bs < 2 ^ 64)) × (n ≡ digits_value 10 bs) = subst P e iff in
    sym (ap decimal is.1 ∙ decimal-digits_value own bs is.0.0 is.0.1 (lone_zero bs h) is.0.2)

pub read_ok : {E : Type 0} (bs : Bytes) (r : Result ℕ E) → is_plain bs ≡ true → ParsesUnsigned 64 10 bs r → IfSome (result_ok r) (λ n. bs ≡ decimal n)
read_ok {E} bs (Ok n) h parses = read_decimal {E = E} bs (Ok n) n h parses (λ i. Ok n)
read_ok {E} bs (Err e) h parses = tt

pub some_none : {A : Type 0} (x : A) → None ≡ Some x → ⊥
some_none x e = cc
