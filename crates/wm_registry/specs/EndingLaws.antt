-- The laws of `Wire` for the end of a trigger's spelling.
-- For proofs and the ghost members of impls: a reader of definitions may skip it.
use Rattle.std.proofs.Common.{◌≡◌, ℕ, ◌^◌, ◌<◌, ◌≤◌, ◌+◌, true, length, Option, Some, None, refl, sym, ◌∙◌, arith, true≢false}
use Rattle.byteorder.specs.Endian.{big_bytes}
use Rattle.wm_wire.specs.Spelling.{Alone}
use Rattle.wm_wire.specs.Laws.{alone_u32}
use Rattle.wm_wire.specs.PairLaws.{alone_optional}
use Rattle.wm_registry.specs.Endings.{IsEnding, ending_spelling, count_fits}
use Rattle.wm_registry.specs.declared.version.Version.{Version}
use Rattle.wm_registry.specs.declared.version.Version.TheVariants.{One, Two}

-- in version 1 there is no number
pub none_in_one : (most : Option ℕ) → count_fits One most ≡ true → most ≡ None
none_in_one None h = refl
none_in_one (Some n) h = absurd (true≢false (sym h))

pub alone_ending : (v : Version) → Alone (IsEnding v) (ending_spelling v)
alone_ending One x y a b hx hy e = none_in_one x hx.place ∙ sym (none_in_one y hy.place)
alone_ending Two x y a b hx hy e = alone_optional (λ n. n < 2 ^ 32) (big_bytes 4) alone_u32 x y a b hx.number hy.number e

pub small_ending : (v : Version) (x : Option ℕ) → length (ending_spelling v x) ≤ 5
small_ending One x = omega arith
small_ending Two None = omega arith
small_ending Two (Some n) = omega arith

pub short_ending : (v : Version) (x : Option ℕ) → IsEnding v x → length (ending_spelling v x) < 2 ^ 32
short_ending v x h = omega (arith, small_ending v x)

-- version 1 leaves out the one byte of a number that is missing
pub ending_in_one : (most : Option ℕ) → count_fits One most ≡ true → length (ending_spelling Two most) ≡ length (ending_spelling One most) + 1
ending_in_one None h = refl
ending_in_one (Some n) h = absurd (true≢false (sym h))
