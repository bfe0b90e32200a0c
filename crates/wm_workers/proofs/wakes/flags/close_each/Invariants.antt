use Rattle.std.proofs.Common.{◌≡◌, ◌++◌, drop, map, take}
use Rattle.wm_workers.specs.WakeFlags.{closed_flag}
use Rattle.wm_workers.proofs.wakes.flags.close_each.Given as goal

abbrev pub invariant-loop-slot : goal.invariant-loop-slot
invariant-loop-slot l = l.flags.items ≡ map closed_flag (take l.slot l.fn.flags.items) ++ drop l.slot l.fn.flags.items
