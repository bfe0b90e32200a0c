use Rattle.std.proofs.Common.{◌≡◌, drop}
use Rattle.wm_crawler.specs.MemTrees.{file_told}
use Rattle.wm_crawler.proofs.memory.file_in.Given as goal

abbrev pub invariant-loop-entry : goal.invariant-loop-entry
invariant-loop-entry l = file_told l.path l.files ≡ file_told l.path (drop l.entry-index l.files)
