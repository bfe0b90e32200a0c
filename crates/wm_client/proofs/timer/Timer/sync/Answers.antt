use Rattle.std.proofs.Common.{◌∙◌, inr, rules, subst}
use Rattle.wm_client.proofs.Passing.{passed_there}
use Rattle.wm_client.proofs.timer.Timer.sync.Goals as goal

pub returns-clause-left : goal.returns-clause-left
returns-clause-left g c is = (
  inr (
    c.in-Some.made,
    search rules,
    subst (λ s. g.Y.SyncSystem.removed s c.in-Some.made) (c.sees_gone.ensures.system ∙ c.make.ensures.system) c.remove.ensures,
  ),
  passed_there g.Y.SyncSystem.passed _ _ _ _ c.make.ensures.system c.make.ensures.limit (c.sees_gone.ensures.over (search rules)),
)
