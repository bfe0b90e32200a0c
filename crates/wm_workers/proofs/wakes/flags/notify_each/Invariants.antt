use Rattle.std.proofs.Common.{◌≡◌, ◌++◌, drop, map, take}
use Rattle.wm_workers.specs.WakeFlags.{notified_flag}
use Rattle.wm_workers.proofs.wakes.flags.notify_each.Given as goal

abbrev pub invariant-loop-slot : goal.invariant-loop-slot
invariant-loop-slot l = l.flags.items ≡ map (notified_flag l.roots) (take l.slot l.fn.flags.items) ++ drop l.slot l.fn.flags.items
