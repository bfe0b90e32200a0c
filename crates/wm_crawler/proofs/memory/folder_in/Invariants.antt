use Rattle.std.proofs.Common.{◌≡◌, drop}
use Rattle.wm_crawler.specs.MemTrees.{folder_told}
use Rattle.wm_crawler.proofs.memory.folder_in.Given as goal

abbrev pub invariant-loop-entry : goal.invariant-loop-entry
invariant-loop-entry l = folder_told l.folder l.folders ≡ folder_told l.folder (drop l.entry-index l.folders)
