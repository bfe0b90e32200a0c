-- What is read as a number is spelled so.
use Rattle.std.proofs.Common.{◌≡◌, ℕ, ◌^◌, ◌<◌, ◌≤◌, List, [], ◌∷◌, ◌++◌, length, take, drop, get_or, refl, sym, ap, arith, inl, inr}
use Rattle.std.proofs.lemmas.Bool.{cases_lt}
use Rattle.std.proofs.lemmas.List.{length-append, length-take, get_or-take, get_or_past}
use Rattle.std.proofs.lemmas.Nat.{be_bytes_4, be_bytes_8}
use Rattle.byteorder.specs.Endian.{big_bytes, big_number}
use Rattle.byteorder.specs.Numbers.{length-bytes_high_first}
use Rattle.wm_wire.specs.Spelling.{BeginsWith, NoneBegins}

abbrev pub IsBytes : List ℕ → Type 0
IsBytes bytes = (i : ℕ) → get_or bytes i 0 < 256

IsBytes-take : (n : ℕ) (bytes : List ℕ) → IsBytes bytes → IsBytes (take n bytes)
IsBytes-take n bytes h i =
    elim (cases_lt i n) [
      | inl lt ↦ rw (get_or-take n bytes i 0 lt) (h i)
      | inr le ↦ rw (get_or_past (take n bytes) i 0 (omega (arith, length-take n bytes))) (omega arith)
    ]

-- the bytes in front are those of the number that they read as
pub front4 : (bs : List ℕ) → 4 ≤ length bs → IsBytes bs → bs ≡ big_bytes 4 (big_number 4 bs) ++ drop 4 bs
front4 [] le fits = absurd (omega arith)
front4 (a ∷ []) le fits = absurd (omega arith)
front4 (a ∷ b ∷ []) le fits = absurd (omega arith)
front4 (a ∷ b ∷ c ∷ []) le fits = absurd (omega arith)
front4 (a ∷ b ∷ c ∷ d ∷ rest) le fits =
    ap (λ (t : List ℕ). t ++ rest) (sym (be_bytes_4 (a ∷ b ∷ c ∷ d ∷ []) (big_number 4 (a ∷ b ∷ c ∷ d ∷ rest)) refl (IsBytes-take 4 (a ∷ b ∷ c ∷ d ∷ rest) fits) (omega arith)))

pub front8 : (bs : List ℕ) → 8 ≤ length bs → IsBytes bs → bs ≡ big_bytes 8 (big_number 8 bs) ++ drop 8 bs
front8 [] le fits = absurd (omega arith)
front8 (a ∷ []) le fits = absurd (omega arith)
front8 (a ∷ b ∷ []) le fits = absurd (omega arith)
front8 (a ∷ b ∷ c ∷ []) le fits = absurd (omega arith)
front8 (a ∷ b ∷ c ∷ d ∷ []) le fits = absurd (omega arith)
front8 (a ∷ b ∷ c ∷ d ∷ e ∷ []) le fits = absurd (omega arith)
front8 (a ∷ b ∷ c ∷ d ∷ e ∷ f ∷ []) le fits = absurd (omega arith)
front8 (a ∷ b ∷ c ∷ d ∷ e ∷ f ∷ g ∷ []) le fits = absurd (omega arith)
front8 (a ∷ b ∷ c ∷ d ∷ e ∷ f ∷ g ∷ h ∷ rest) le fits =
    ap (λ (t : List ℕ). t ++ rest) (sym (be_bytes_8 (a ∷ b ∷ c ∷ d ∷ e ∷ f ∷ g ∷ h ∷ []) (big_number 8 (a ∷ b ∷ c ∷ d ∷ e ∷ f ∷ g ∷ h ∷ rest)) refl (IsBytes-take 8 (a ∷ b ∷ c ∷ d ∷ e ∷ f ∷ g ∷ h ∷ rest) fits) (omega arith)))

pub read4 : (bs : List ℕ) → 4 ≤ length bs → IsBytes bs → BeginsWith (λ n. n < 2 ^ 32) (big_bytes 4) bs (big_number 4 bs) 4
read4 bs le fits = record {
  known = omega (arith, fits 0, fits 1, fits 2, fits 3);
  parts = front4 bs le fits;
  whole = sym (length-bytes_high_first 4 (big_number 4 bs));
}

pub read8 : (bs : List ℕ) → 8 ≤ length bs → IsBytes bs → BeginsWith (λ n. n < 2 ^ 64) (big_bytes 8) bs (big_number 8 bs) 8
read8 bs le fits = record {
  known = omega (arith, fits 0, fits 1, fits 2, fits 3, fits 4, fits 5, fits 6, fits 7);
  parts = front8 bs le fits;
  whole = sym (length-bytes_high_first 8 (big_number 8 bs));
}

pub too_short : (n : ℕ) (P : ℕ → Type 0) (bs : List ℕ) → length bs < n → NoneBegins P (big_bytes n) bs
too_short n P bs h value rest fits e = omega (arith, ap length e, length-append (big_bytes n value) rest, length-bytes_high_first n value)
