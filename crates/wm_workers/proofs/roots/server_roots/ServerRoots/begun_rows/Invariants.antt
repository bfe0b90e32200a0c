use Rattle.std.proofs.Common.{List, ◌++◌}
use Rattle.std.specs.Arc.{arc_value}
use Rattle.wm_workers.specs.BegunRoots.{AreRootsBegun, root_id}
use Rattle.wm_workers.proofs.roots.server_roots.ServerRoots.begun_rows.Given as goal

-- once the rest of the roots has begun, all have
abbrev pub invariant-loop-path : goal.invariant-loop-path
invariant-loop-path g l = (rest : List _) → AreRootsBegun (λ root. root_id (arc_value root)) l.registry.incarnation l.path-iterator rest → AreRootsBegun (λ root. root_id (arc_value root)) l.registry.incarnation l.registry.roots (l.all.items ++ rest)
