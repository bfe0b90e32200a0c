use Rattle.std.proofs.Common.{◌≡◌, ◌≤◌, length, vec_capacity, vec_len}
use Rattle.wm_groupcommit.specs.Counting.{newer_of, counts_after}
use Rattle.wm_groupcommit.proofs.locked.keep_newer.Given as goal

abbrev pub invariant-loop-call : goal.invariant-loop-call
invariant-loop-call l = record {
  kept : l.kept.items ≡ newer_of l.initial.counts.items l.yielded;
  counts : l.counts.items ≡ counts_after l.initial.counts.items l.yielded;
  few : vec_len l.kept ≤ length l.yielded;
  room : vec_capacity l.kept ≡ vec_capacity l.initial.kept;
}
