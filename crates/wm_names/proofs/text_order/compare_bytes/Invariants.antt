use Rattle.std.proofs.Common.{◌≡◌, ◌+◌, length}
use Rattle.std.specs.Ordering.{nat_cmp}
use Rattle.std.specs.Cmp.Lexicographic.{slice_cmp}
use Rattle.wm_names.proofs.text_order.compare_bytes.Given as goal

-- the texts stand as what is still to come of them, and as much of the one was passed as of the other
abbrev pub invariant-loop-x : goal.invariant-loop-x
invariant-loop-x l = record {
  order : slice_cmp nat_cmp l.one l.other ≡ slice_cmp nat_cmp l.x-iterator.a.rest.now l.x-iterator.b.rest.now;
  passed : length l.one + length l.x-iterator.b.rest.now ≡ length l.other + length l.x-iterator.a.rest.now;
}
