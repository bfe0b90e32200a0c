use Rattle.wm_view.proofs.InOrder.{if_ok}
use Rattle.wm_view.proofs.view_state.ViewState.changed_after.Goals as goal

pub returns : goal.returns
returns c = if_ok c.changed_after.result (λ v e. e c.args.self.now.tick c.requires.low c.requires.up) c.changed_after.ensures
