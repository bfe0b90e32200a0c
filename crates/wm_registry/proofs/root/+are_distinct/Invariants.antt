use Rattle.std.proofs.Common.{length}
use Rattle.wm_registry.proofs.root.+are_distinct.Given as goal

abbrev pub decreases-are_distinct : goal.decreases-are_distinct
decreases-are_distinct l = length l.triggers.now
