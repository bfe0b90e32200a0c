-- Each version's parts follow each other, and a body's length fits its four bytes.
use Rattle.std.proofs.Common.{refl, arith}
use Rattle.wm_checkpoint.specs.Layout.{Sizes, PartsFollow, AreLawful, sizes_1, sizes_2}

pub parts_follow : (l : Sizes) → PartsFollow l
parts_follow l = record { slot_a = refl; journal_a = refl; slot_b = omega arith; journal_b = refl; end = omega arith }

pub lawful_1 : AreLawful sizes_1
lawful_1 = record { follow = parts_follow sizes_1; small = omega arith }

pub lawful_2 : AreLawful sizes_2
lawful_2 = record { follow = parts_follow sizes_2; small = omega arith }
