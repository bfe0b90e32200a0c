use Rattle.std.proofs.Common.{rules}
use Rattle.wm_client.proofs.Passing.{passed_there}
use Rattle.wm_client.proofs.timer.Timer.sees_gone.Goals as goal

pub returns-then-not-pause-clause-over : goal.returns-then-not-pause-clause-over
returns-then-not-pause-clause-over g c is =
    passed_there g.Y.SyncSystem.passed _ _ _ _ c.loop-begun.invariant.0 c.loop-begun.invariant.1 (c.if-not-pause.ensures.over (search rules))
