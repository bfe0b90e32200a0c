use Rattle.std.proofs.Common.{rules, sym, subst}
use Rattle.wm_world.specs.Passes.{LosesPower, OnOther}
use Rattle.wm_world.specs.Refinement.{OtherIs}
use Rattle.wm_world.proofs.Falling.{crash_met}
use Rattle.wm_world.proofs.Others.{FailsNoMore}
use Rattle.wm_world.proofs.world.World.crash.Goals as goal

pub returns : goal.returns
returns g c =
    let D = g.D.Disk in
    let plan = g.D.Crashed.plan in
    let other = c.into_disks-disk.ensures.other in
    crash_met D plan c.args.self _ _ _ c.fallen.ensures.down c.fallen.ensures.views c.fallen.ensures.replies c.fallen.ensures.clients
    (search rules)
    (λ h. subst (OtherIs D.honest) other (c.crash-beside.ensures.honest h))
    (search rules)
    (subst (λ x. FailsNoMore D x c.crash-beside.result) other c.crash-beside.ensures.counts)
    c.every_registry.ensures.in_version_2
    (search rules)
    (λ h. subst (λ x. OnOther (LosesPower D plan) x c.crash-beside.result) other (c.crash-beside.ensures.lost (subst (OtherIs D.honest) (sym other) h)))
