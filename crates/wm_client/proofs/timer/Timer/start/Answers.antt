use Rattle.std.proofs.Common.{rules}
use Rattle.wm_client.proofs.Passing.{passed_now}
use Rattle.wm_client.proofs.timer.Timer.start.Goals as goal

pub invariant_of-result : goal.invariant_of-result
invariant_of-result g c = record { is_passed = passed_now _ _ c.elapsed-waited.ensures; is_short = search rules }
