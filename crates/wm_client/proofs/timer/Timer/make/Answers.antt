use Rattle.std.proofs.Common.{rules, subst}
use Rattle.wm_client.proofs.Passing.{passed_there}
use Rattle.wm_client.proofs.timer.Timer.make.Goals as goal

pub returns-then-not-pause-clause-made : goal.returns-then-not-pause-clause-made
returns-then-not-pause-clause-made g c = (
  subst (λ s. g.Y.SyncSystem.none_in s c.args.folder.now) c.loop-made.invariant.0 (search rules),
  passed_there g.Y.SyncSystem.passed _ _ _ _ c.loop-made.invariant.0 c.loop-made.invariant.1 (c.if-not-pause.ensures.over (search rules)),
)
