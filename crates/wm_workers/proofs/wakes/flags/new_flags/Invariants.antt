use Rattle.std.proofs.Common.{◌≡◌, length}
use Rattle.wm_workers.proofs.wakes.flags.new_flags.Given as goal

abbrev pub invariant-loop-slot : goal.invariant-loop-slot
invariant-loop-slot l = length l.flags.items ≡ l.slot
