use Rattle.std.proofs.Common.{◌≡◌, ◌++◌}
use Rattle.wm_registry.proofs.registry.put_copies.Given as goal

abbrev pub invariant-loop-path : goal.invariant-loop-path
invariant-loop-path l = l.copy.entries ++ l.path-iterator ≡ l.roots.entries
