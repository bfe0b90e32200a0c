use Rattle.std.proofs.Common.{subst}
use Rattle.wm_root.specs.ChangeSeen.{IsEnded}
use Rattle.wm_root.specs.RootStates.{root_state}
use Rattle.wm_root.proofs.Operating.{is_ended}
use Rattle.wm_root.proofs.locked_root.LockedRoot+RootKeeper+J+T+R.change.Goals as goal

pub returns-clause-ended : goal.returns-clause-ended
returns-clause-ended g c =
    let done = c.operate-performed in
    let before = root_state c.args.self.now.keeper c.args.self.now.backlog in
    let after = root_state done.new.keeper done.new.backlog in
    subst (λ op. IsEnded op done.result.last done.result.is_published done.result.ended) c.at-op.ensures
    (is_ended c.args.self.now.retention c.at-op.result before after done.result.last done.result.is_published done.result.ended done.ensures.operated)
