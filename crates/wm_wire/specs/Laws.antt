-- The laws of `Wire` for numbers, truth values and texts.
-- For proofs and the ghost members of impls: a reader of definitions may skip it.
use Rattle.std.proofs.Common.{◌≡◌, ℕ, ◌+◌, ◌^◌, ◌<◌, ◌≤◌, Bool, true, false, List, ◌++◌, length, take, drop, refl, sym, ap, ◌∙◌, append_assoc, arith}
use Rattle.std.proofs.lemmas.List.{length-append, take_at}
use Rattle.byteorder.specs.Endian.{big_bytes, big_number}
use Rattle.byteorder.specs.Numbers.{big_from-bytes}
use Rattle.std.proofs.Math.Nat.{mod-eq_of_lt}
use Rattle.wm_wire.specs.Spelling.{truth, text, IsText, Every}

-- a number of n bytes is read from the front of its bytes
number_again : (n x : ℕ) (rest : List ℕ) → x < 256 ^ n → big_number n (big_bytes n x ++ rest) ≡ x
number_again n x rest lt = big_from-bytes n x rest ∙ mod-eq_of_lt lt

alone_number : (n x y : ℕ) (a b : List ℕ) → x < 256 ^ n → y < 256 ^ n → big_bytes n x ++ a ≡ big_bytes n y ++ b → x ≡ y
alone_number n x y a b hx hy e = sym (number_again n x a hx) ∙ ap (big_number n) e ∙ number_again n y b hy

pub alone_u32 : (x y : ℕ) (a b : List ℕ) → x < 2 ^ 32 → y < 2 ^ 32 → big_bytes 4 x ++ a ≡ big_bytes 4 y ++ b → x ≡ y
alone_u32 x y a b hx hy e = alone_number 4 x y a b (omega arith) (omega arith) e

pub alone_u64 : (x y : ℕ) (a b : List ℕ) → x < 2 ^ 64 → y < 2 ^ 64 → big_bytes 8 x ++ a ≡ big_bytes 8 y ++ b → x ≡ y
alone_u64 x y a b hx hy e = alone_number 8 x y a b (omega arith) (omega arith) e

pub short_u32 : (x : ℕ) → x < 2 ^ 32 → length (big_bytes 4 x) < 2 ^ 32
short_u32 x h = omega arith

pub short_u64 : (x : ℕ) → x < 2 ^ 64 → length (big_bytes 8 x) < 2 ^ 32
short_u64 x h = omega arith

pub alone_truth : (x y : Bool) (a b : List ℕ) → Every x → Every y → truth x ++ a ≡ truth y ++ b → x ≡ y
alone_truth false false a b p q e = refl
alone_truth false true a b p q e = absurd cc
alone_truth true false a b p q e = absurd cc
alone_truth true true a b p q e = refl

pub short_truth : (x : Bool) → Every x → length (truth x) < 2 ^ 32
short_truth false p = omega arith
short_truth true p = omega arith

-- the parts of what begins with a text's spelling
pub record BeginsWithText (v bytes : List ℕ) : Type 0 where
  pub length_is : big_number 4 bytes ≡ length v
  pub long : 4 + length v ≤ length bytes
  pub bytes_are : take (length v) (drop 4 bytes) ≡ v

pub text_prefix : (max : ℕ) (v rest bytes : List ℕ) → IsText max v → bytes ≡ text v ++ rest → BeginsWithText v bytes
text_prefix max v rest bytes fits e =
    let grouped : bytes ≡ big_bytes 4 (length v) ++ (v ++ rest) = e ∙ append_assoc (big_bytes 4 (length v)) v rest in
    let below : length v < 256 ^ 4 = omega (arith, fits.below) in
    record {
      length_is = ap (big_number 4) grouped ∙ number_again 4 (length v) (v ++ rest) below;
      long = omega (arith, ap length grouped, length-append (big_bytes 4 (length v)) (v ++ rest), length-append v rest);
      bytes_are = ap (λ (t : List ℕ). take (length v) (drop 4 t)) grouped ∙ take_at v rest (length v) refl;
    }

pub alone_text : (max : ℕ) (x y : List ℕ) (a b : List ℕ) → IsText max x → IsText max y → text x ++ a ≡ text y ++ b → x ≡ y
alone_text max x y a b hx hy e =
    let p = text_prefix max x a (text x ++ a) hx refl in
    let q = text_prefix max y b (text x ++ a) hy e in
    let same : length x ≡ length y = sym p.length_is ∙ q.length_is in
    sym p.bytes_are ∙ ap (λ (n : ℕ). take n (drop 4 (text x ++ a))) same ∙ q.bytes_are

pub short_text : (max : ℕ) (x : List ℕ) → IsText max x → length (text x) < 2 ^ 32
short_text max x h = omega (arith, h.below, length-append (big_bytes 4 (length x)) x)
