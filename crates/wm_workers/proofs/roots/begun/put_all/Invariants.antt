use Rattle.wm_workers.specs.BegunRoots.{PutsAll}
use Rattle.wm_workers.specs.UnstartedWorkers.{WorkerList}
use Rattle.wm_workers.specs.WatchedRoots.{WatchedRoots}
use Rattle.wm_workers.proofs.roots.begun.put_all.Given as goal

-- what the rest does to the table, all did to what it was
abbrev pub invariant-loop-row : goal.invariant-loop-row
invariant-loop-row g l = (new : WatchedRoots g.row.H.Denot) (u : WorkerList) → PutsAll l.row-iterator.rest.items l.roots l.unstarted new u → PutsAll l.fn.all.items l.fn.roots l.fn.unstarted new u
