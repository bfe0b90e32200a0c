use Rattle.wm_view.proofs.InOrder.{if_ok}
use Rattle.wm_view.proofs.view_state.ViewState.existing.Goals as goal

pub returns : goal.returns
returns c = if_ok c.existing.result (λ v e. e c.args.self.now.tick c.requires.low c.requires.up) c.existing.ensures
