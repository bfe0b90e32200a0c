use Rattle.std.proofs.Common.{◌≡◌, length}
use Rattle.serve_tests.proofs.readings.StageFolders.metas.Given as goal

abbrev pub invariant-loop-path : goal.invariant-loop-path
invariant-loop-path g l = length l.metas.items ≡ l.path-index
