use Rattle.std.proofs.Common.{sym, subst}
use Rattle.wm_view.proofs.InOrder.{if_ok}
use Rattle.wm_view.proofs.Moments.{search_bound}
use Rattle.wm_view.specs.KnownPaths.{IsSearchBound, told}
use Rattle.wm_view.proofs.view_state.ViewState.changed_from_moment.Goals as goal

pub returns : goal.returns
returns c = if_ok c.changed_from_moment.result (λ v e. e c.args.self.now.tick c.requires.low c.requires.up) c.changed_from_moment.ensures

pub changed_from_moment-requires-clause-ends : goal.changed_from_moment-requires-clause-ends
changed_from_moment-requires-clause-ends c = subst (λ b. IsSearchBound b c.args.moment (told c.args.self.now.paths)) (sym c.saturating_sub-bound.ensures) (search_bound c.args.self.now.fall c.args.moment (told c.args.self.now.paths) c.requires.falls)
