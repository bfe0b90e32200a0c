use Rattle.std.proofs.Common.{◌≡◌, false, take}
use Rattle.std.specs.List.{list_any}
use Rattle.wm_workers.specs.WatchedRoots.{has_number}
use Rattle.wm_workers.proofs.roots.table.RootTable.numbered.Given as goal

abbrev pub invariant-loop-root : goal.invariant-loop-root
invariant-loop-root g l = list_any (has_number l.number) (take l.root-index l.self.roots) ≡ false
