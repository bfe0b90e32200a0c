-- Numbers in range, and their digits.
use Rattle.std.proofs.Common.{◌≡◌, ◌≢◌, ℕ, zero, suc, ◌^◌, ◌<◌, ◌≤◌, Bool, true, false, List, length, get_or, decimal, nat_lt, nat_le, ◌==◌, All, None, Some, Result, Ok, MatchBool, IsCharBoundary, refl, sym, ap, ◌∙◌, arith, true≢false, leb-true, ltb-true, lt-ltb, le-leb, ne_eqb}
use Rattle.std.specs.Str.Parse.{AllDigits, digits_value, ParsesUnsigned}
use Rattle.std.proofs.lemmas.Str.Parse.{IsNumeralModel, numerals_by_value, tells_digits, parse_plain, not_in_digits}
use Rattle.std.proofs.lemmas.Fmt.{decimal_digit, decimal_is_IsNumeral, decimal-digits_value, digits_decimal, first_decimal, parse-decimal}
use Rattle.std.specs.Str.Pattern.{FindsCharPrefix}
use Rattle.std.proofs.lemmas.Str.Pattern.{starts_char}
use Rattle.std.proofs.lemmas.List.Elements.{All-from_get_or}
use Rattle.wm_disk.specs.Counters.{max_counter}
use Rattle.wm_clock.specs.Clocks.{is_number}
use Rattle.wm_disk.specs.laws.Tests.{both_first, both_second}

own : IsNumeralModel (AllDigits 10) (digits_value 10)
own = numerals_by_value (AllDigits 10) tells_digits

positive : (n : ℕ) → is_number n ≡ true → 0 < n
positive n h = ltb-true 0 n (both_first (nat_lt 0 n) (nat_le n max_counter) h)

pub bounded : (n : ℕ) → is_number n ≡ true → n ≤ max_counter
bounded n h = leb-true n max_counter (both_second (nat_lt 0 n) (nat_le n max_counter) h)

small : (n : ℕ) → is_number n ≡ true → n < 2 ^ 64
small n h = let low : n ≤ max_counter = bounded n h in omega arith

pub value_again : (n : ℕ) → is_number n ≡ true → digits_value 10 (decimal n) ≡ n
value_again n h = (decimal_is_IsNumeral n (small n h)).1

-- a number's digits hold no colon
pub no_colon_at : (n : ℕ) → is_number n ≡ true → (i : ℕ) → i < length (decimal n) → get_or (decimal n) i 0 ≢ 58
no_colon_at n h = not_in_digits own (decimal n) 58 (digits_decimal own n (small n h)) (λ p. omega arith)

pub no_colon : (n : ℕ) → is_number n ≡ true → All (λ x. (x == 58) ≡ false) (decimal n)
no_colon n h = All-from_get_or (λ x. (x == 58) ≡ false) (decimal n) 0 (λ i lt. ne_eqb (get_or (decimal n) i 0) 58 (no_colon_at n h i lt))

-- no number in range begins with a zero or a plus
pub no_zero_first : (n : ℕ) (text : List ℕ) → is_number n ≡ true → text ≡ decimal n → 48 < get_or text 0 0
no_zero_first n text h e = rw e (first_decimal n (positive n h) (small n h))

positive_from : (n : ℕ) (text : List ℕ) → text ≡ decimal n → get_or text 0 0 ≢ 48 → 0 < n
positive_from zero text e zero_first = absurd (zero_first (rw (e, decimal_digit 0 (omega arith)) refl))
positive_from (suc n) text e zero_first = omega arith

pub from_parse : {E : Type 0} (text : List ℕ) (n : ℕ) (r : Result ℕ E) → ParsesUnsigned 64 10 text r → r ≡ Ok n → get_or text 0 0 ≢ 43 → get_or text 0 0 ≢ 48 → n ≤ max_counter → (text ≡ decimal n) × (is_number n ≡ true)
from_parse {E = E} text n r p is plus zero_first le =
    let q = parse_plain own {E = E} 64 text (Ok n) (rw is at p) plus in
    let same : decimal (digits_value 10 text) ≡ text = decimal-digits_value own text q.0.0 q.0.1 (λ z. absurd (zero_first z)) q.0.2 in
    let text_is : text ≡ decimal n = sym same ∙ ap decimal (sym q.1) in
    let above : 0 < n = positive_from n text text_is zero_first in
    (text_is, rw (lt-ltb 0 n above, le-leb n max_counter le) refl)

-- what `starts_with` says of the first byte
abbrev Starts : ℕ → List ℕ → Bool → Type 0
Starts c text r = MatchBool r ((n : ℕ) × FindsCharPrefix c text (Some n) × IsCharBoundary text n) (FindsCharPrefix c text None)

pub other_first : (c : ℕ) (text : List ℕ) (r : Bool) → Starts c text r → c < 128 → 0 < c → r ≡ false → get_or text 0 0 ≢ c
other_first c text r h ascii pos e z = absurd (true≢false (sym ((starts_char c text r h ascii pos).1 z) ∙ e))

pub first_is : (c : ℕ) (text : List ℕ) (r : Bool) → Starts c text r → c < 128 → 0 < c → r ≡ true → get_or text 0 0 ≡ c
first_is c text r h ascii pos e = (starts_char c text r h ascii pos).0 e

pub not_parsed : {E : Type 0} (text : List ℕ) (r : Result ℕ E) (n : ℕ) → ParsesUnsigned 64 10 text r → is_number n ≡ true → text ≡ decimal n → r ≡ Ok n
not_parsed text r n p h e = parse-decimal 64 n text r (small n h) (small n h) e p
