use Rattle.std.proofs.Common.{◌≡◌, false, take}
use Rattle.std.specs.List.{list_any}
use Rattle.wm_workers.specs.WatchedRoots.{lacks_root}
use Rattle.wm_workers.proofs.roots.table.RootTable.lacking.Given as goal

abbrev pub invariant-loop-place : goal.invariant-loop-place
invariant-loop-place g l = list_any (lacks_root l.number) (take l.place l.self.roots) ≡ false
