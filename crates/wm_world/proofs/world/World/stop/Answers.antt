use Rattle.std.proofs.Common.{sym, ap, subst, ◌∙◌}
use Rattle.wm_disk.specs.Contents.{NoMore}
use Rattle.wm_world.specs.Passes.{Halts, OnOther}
use Rattle.wm_world.specs.Refinement.{OtherIs}
use Rattle.wm_world.proofs.Falling.{stop_met}
use Rattle.wm_world.proofs.Others.{FailsNoMore}
use Rattle.wm_world.proofs.world.World.stop.Goals as goal

pub returns : goal.returns
returns g c =
    let D = g.D.Disk in
    let plan = g.D.Crashed.plan in
    let used = c.into_disks-disk.ensures.used in
    let other = c.into_disks-disk.ensures.other in
    stop_met D plan c.args.self _ c.stop.result c.stop-2.result c.fallen.ensures.down c.fallen.ensures.views c.fallen.ensures.replies c.fallen.ensures.clients
    (λ h. subst D.honest used (c.stop.ensures.honest.0 h))
    (λ h. subst (OtherIs D.honest) other (c.stop-2.ensures.honest h))
    (c.stop.ensures.count ∙ ap D.failures used)
    (subst (λ x. FailsNoMore D x c.stop-2.result) other c.stop-2.ensures.counts)
    (λ h. let k = subst D.honest (sym used) h in (c.stop.ensures.seen k ∙ ap D.seen used, subst (λ x. NoMore (D.may_leave x) (D.may_leave c.stop.result)) used (c.stop.ensures.crash k), c.stop.ensures.plan))
    (λ h. subst (λ x. OnOther (Halts D plan) x c.stop-2.result) other (c.stop-2.ensures.halts (subst (OtherIs D.honest) (sym other) h)))
