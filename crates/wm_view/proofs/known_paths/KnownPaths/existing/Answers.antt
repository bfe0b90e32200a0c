use Rattle.std.proofs.Common.{◌∙◌}
use Rattle.wm_view.proofs.InOrder.{existing_is, if_ok}
use Rattle.wm_view.proofs.known_paths.KnownPaths.existing.Goals as goal

pub returns : goal.returns
returns c = if_ok c.listed.result (λ v e n l up. e ∙ existing_is c.args.self.now n c.requires l up) c.listed.ensures
