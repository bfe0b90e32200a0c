use Rattle.std.proofs.Common.{◌∙◌}
use Rattle.wm_view.proofs.InOrder.{changed_is, if_ok}
use Rattle.wm_view.proofs.known_paths.KnownPaths.changed_after.Goals as goal

pub returns : goal.returns
returns c = if_ok c.listed.result (λ v e n l up. e ∙ changed_is c.args.self.now c.args.tick n c.requires l up) c.listed.ensures
