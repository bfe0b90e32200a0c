use Rattle.std.proofs.Common.{refl}
use Rattle.wm_world.proofs.Arming.{used_armed_down, used_armed_up}
use Rattle.wm_world.proofs.world.World.arm.Goals as goal

pub returns-in-Up : goal.returns-in-Up
returns-in-Up g c =
    let e = c.arm.ensures in
    used_armed_up g.D.Disk g.D.Crashed.plan c.args.self.now _ c.in-Up._other c.args.calls refl c.in-Up.store c.arm.new.self c.in-Up.is refl e.registry e.up e.honest (λ h. ((e.reads h).seen, (e.reads h).crash, e.plan)) e.count

pub returns-in-Down : goal.returns-in-Down
returns-in-Down g c =
    let e = c.arm-in-Down.ensures in
    used_armed_down g.D.Disk g.D.Crashed.plan c.args.self.now _ c.in-Down._other c.args.calls refl c.in-Down.disk c.arm-in-Down.new.self c.in-Down.is refl e.honest (λ h. (e.seen h, e.crash h, e.plan)) e.count
