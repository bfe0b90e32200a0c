use Rattle.std.proofs.Common.{◌≡◌}
use Rattle.wm_registry.specs.Spelling.{AreRoots}
use Rattle.wm_registry.proofs.wire.gathered.Given as goal

abbrev pub invariant-loop-entry : goal.invariant-loop-entry
invariant-loop-entry g l = record {
  gathered : l.roots.entries ≡ l.yielded;
  apart : AreRoots l.next l.yielded;
}
