use Rattle.std.proofs.Common.{◌++◌, ◌∷◌, [], None, ap, ◌∙◌, refl}
use Rattle.wm_world.proofs.Calls.{connect_none, connect_one}
use Rattle.wm_world.proofs.world.World.connect.Goals as goal

pub returns-in_default : goal.returns-in_default
returns-in_default g c = connect_none g.D.Disk g.met.D.Disk.only_now c.every_registry.ensures.in_version_2 c.args.self c.args.path c.args.test (c.in_default.ensures.refused.1)

pub returns : goal.returns
returns g c = connect_one g.D.Disk g.met.D.Disk.only_now c.every_registry.ensures.in_version_2 c.args.self _ c.args.path c.args.test c.in-Ok.ensures.ok.0 refl refl refl (c.in_ok-push.ensures.items ∙ ap (λ m. c.args.self.shown.clients.items ++ record { mirror = m; answer = None } ∷ []) c.in-Ok.ensures.ok.1)
