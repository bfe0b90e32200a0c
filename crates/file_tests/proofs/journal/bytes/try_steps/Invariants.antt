use Rattle.wm_journal.specs.Regions.{IsAt}
use Rattle.file_tests.proofs.journal.bytes.try_steps.Given as goal

abbrev pub invariant-loop-step : goal.invariant-loop-step
invariant-loop-step g l = IsAt l.region 5 l.len
