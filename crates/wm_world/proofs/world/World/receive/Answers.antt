use Rattle.std.proofs.Common.{◌≡◌, refl, arith}
use Rattle.wm_world.specs.Steps.{receiving, with_client}
use Rattle.wm_world.proofs.Calls.{nothing, receive_one, too_many}
use Rattle.wm_world.proofs.world.World.receive.Goals as goal

pub returns-then-n-len : goal.returns-then-n-len
returns-then-n-len g c = nothing g.D.Disk g.met.D.Disk.only_now c.every_registry.ensures.in_version_2 c.args.self (λ w v. v ≡ with_client receiving c.args.n w) (λ w reached s. too_many g.D.Disk g.met.D.Disk.only_now c.every_registry.ensures.in_version_2 c.args.self c.args.n (λ w. receiving) w (omega (arith, c.if-n-len.true, c.len.ensures)) s)

pub returns : goal.returns
returns g c = receive_one g.D.Disk g.met.D.Disk.only_now c.every_registry.ensures.in_version_2 c.every_client.ensures c.args.self _ c.args.n c.receive.new.client c.index_mut.result.now refl refl refl (omega (arith, c.if-n-len.false, c.len.ensures)) refl c.index_mut.ensures.value c.in_ok-receive.ensures
