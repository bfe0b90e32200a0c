use Rattle.std.proofs.Common.{◌≡◌, length}
use Rattle.std.specs.Ordering.{nat_cmp}
use Rattle.std.specs.Cmp.Lexicographic.{slice_cmp}
use Rattle.wm_names.proofs.text_order.compare_texts.Given as goal

-- the texts stand as what is still to come of them
abbrev pub invariant-loop-one : goal.invariant-loop-one
invariant-loop-one l = slice_cmp nat_cmp l.fn.one l.fn.other ≡ slice_cmp nat_cmp l.one l.other

abbrev pub decreases-loop-one : goal.decreases-loop-one
decreases-loop-one l = length l.one
