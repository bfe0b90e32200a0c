use Rattle.std.proofs.Common.{◌≡◌, false, take}
use Rattle.std.specs.List.{list_any}
use Rattle.wm_workers.specs.WatchedRoots.{has_path}
use Rattle.wm_workers.proofs.roots.table.RootTable.find.Given as goal

abbrev pub invariant-loop-root : goal.invariant-loop-root
invariant-loop-root g l = list_any (has_path l.path) (take l.root-index l.self.roots) ≡ false
