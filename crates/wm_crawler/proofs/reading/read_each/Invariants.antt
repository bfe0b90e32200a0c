use Rattle.std.proofs.Common.{take}
use Rattle.wm_crawler.specs.Levels.{AreRead, AllFrom}
use Rattle.wm_crawler.proofs.reading.read_each.Given as goal

abbrev pub invariant-loop-folder : goal.invariant-loop-folder
invariant-loop-folder g l = record {
  read : g.T.Tree.stays l.tree → AreRead (g.T.Tree.content l.tree) (take l.folder-index l.folders) l.level.paths.items l.level.faults;
  from : AllFrom l.folders l.level.paths.items;
}
