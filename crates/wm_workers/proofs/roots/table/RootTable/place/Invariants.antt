use Rattle.std.proofs.Common.{◌≡◌, false, take}
use Rattle.std.specs.List.{list_any}
use Rattle.wm_workers.specs.WatchedRoots.{has_path}
use Rattle.wm_workers.proofs.roots.table.RootTable.place.Given as goal

abbrev pub invariant-loop-place : goal.invariant-loop-place
invariant-loop-place g l = list_any (has_path l.path) (take l.place l.self.roots) ≡ false
