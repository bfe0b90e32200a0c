use Rattle.std.proofs.Common.{◌≡◌, length}
use Rattle.wm_workers.proofs.wakes.flags.new_condvars.Given as goal

abbrev pub invariant-loop-slot : goal.invariant-loop-slot
invariant-loop-slot l = length l.changed.items ≡ l.slot
