use Rattle.std.proofs.Common.{◌≡◌}
use Rattle.wm_registry.proofs.entry.plain.Given as goal

abbrev pub invariant-loop-trigger : goal.invariant-loop-trigger
invariant-loop-trigger g l = l.triggers ≡ l.yielded
