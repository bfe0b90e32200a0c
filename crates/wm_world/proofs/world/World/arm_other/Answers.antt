use Rattle.std.proofs.Common.{refl}
use Rattle.wm_world.proofs.Arming.{other_armed_down, other_armed_up}
use Rattle.wm_world.proofs.world.World.arm_other.Goals as goal

pub returns-in-Up : goal.returns-in-Up
returns-in-Up g c =
    let e = c.arm.ensures in
    other_armed_up g.D.Disk g.D.Crashed.plan c.args.self.now _ c.in-Up.other c.arm.new.self c.args.calls refl e.honest e.armed e.counts c.in-Up._store c.in-Up.is refl

pub returns-in-Down : goal.returns-in-Down
returns-in-Down g c =
    let e = c.arm-in-Down.ensures in
    other_armed_down g.D.Disk g.D.Crashed.plan c.args.self.now _ c.in-Down.other c.arm-in-Down.new.self c.args.calls refl e.honest e.armed e.counts c.in-Down._disk c.in-Down.is refl
