use Rattle.std.proofs.Common.{◌≡◌, take}
use Rattle.wm_registry.proofs.root.copied.Given as goal

abbrev pub invariant-loop-trigger : goal.invariant-loop-trigger
invariant-loop-trigger l = l.list ≡ take l.trigger-index l.triggers
