use Rattle.std.proofs.Common.{◌≡◌, refl, arith}
use Rattle.wm_world.specs.Steps.{with_client}
use Rattle.wm_world.specs.Worlds.{without_answer}
use Rattle.wm_world.proofs.Calls.{lose_one, nothing, too_many}
use Rattle.wm_world.proofs.world.World.lose.Goals as goal

pub returns-then-n-len : goal.returns-then-n-len
returns-then-n-len g c = nothing g.D.Disk g.met.D.Disk.only_now c.every_registry.ensures.in_version_2 c.args.self (λ w v. v ≡ with_client without_answer c.args.n w) (λ w reached s. too_many g.D.Disk g.met.D.Disk.only_now c.every_registry.ensures.in_version_2 c.args.self c.args.n (λ w. without_answer) w (omega (arith, c.if-n-len.true, c.len.ensures)) s)

pub returns : goal.returns
returns g c = lose_one g.D.Disk g.met.D.Disk.only_now c.every_registry.ensures.in_version_2 c.args.self _ c.args.n c.lose.new.client c.index_mut.result.now refl refl refl (omega (arith, c.if-n-len.false, c.len.ensures)) refl c.index_mut.ensures.value c.lose.ensures
