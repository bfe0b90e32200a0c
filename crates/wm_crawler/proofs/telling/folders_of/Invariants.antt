use Rattle.std.proofs.Common.{◌≡◌, take}
use Rattle.wm_crawler.specs.Levels.{folders}
use Rattle.wm_crawler.proofs.telling.folders_of.Given as goal

abbrev pub invariant-loop-entry : goal.invariant-loop-entry
invariant-loop-entry l = l.out.items ≡ folders (take l.entry-index l.found)
