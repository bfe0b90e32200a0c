use Rattle.std.proofs.Common.{ap, ◌∙◌, refl}
use Rattle.std.specs.Prelude.{map}
use Rattle.wm_view.specs.Summaries.{summary}
use Rattle.wm_world.specs.Worlds.{begun_all}
use Rattle.wm_world.proofs.Opening.{open_done, open_failed}
use Rattle.wm_world.proofs.Calls.{open_up}
use Rattle.wm_world.proofs.world.World.open.Goals as goal

pub returns-in_ok-shown-in-Ok : goal.returns-in_ok-shown-in-Ok
returns-in_ok-shown-in-Ok g c =
    let r = c.in-Ok.ensures in
    open_done g.D.Disk c.every_registry.ensures.in_version_2 c.args.self _ c.in-Down.disk c.in-Down.other c.in-Down.is c.every_file.ensures c.every_registry.ensures.rises c.every_registry.ensures.in_order g.met.D.Disk.reads_stand c.in-Ok.store refl refl refl
    (c.in_ok-shown-in-Ok.ensures ∙ ap (λ r. map summary (begun_all r)) c.registry.ensures.value)
    r.calls.honest.0 r.calls.no_failure r.works.up r.works.open_yet r.begun r.works.means r.works.numbered

pub returns-in_ok-unless_memory-in-Err : goal.returns-in_ok-unless_memory-in-Err
returns-in_ok-unless_memory-in-Err g c =
    let r = c.in-Err.ensures in
    open_failed g.D.Disk c.every_registry.ensures.in_version_2 c.args.self _ c.in-Down.disk c.in-Down.other c.in-Down.is c.every_file.ensures c.every_registry.ensures.rises c.every_registry.ensures.in_order g.met.D.Disk.reads_stand c.in-Err.disk refl refl refl refl r.calls.honest.1
    g.met.D.Disk.counts_now c.in-Err.refusal c.in_ok-unless_memory-in-Err.ensures r.kinds (λ h. (r.left h).cut) (λ h. (r.why h).damaged) (λ h. (r.why h).retired) (λ h. (r.why h).exhausted)
    r.calls.failed r.calls.failures_kept r.calls.failures_grow.1 (λ h. (r.left h).refused) (λ h. (r.left h).still) (λ h. (r.left h).numbered)

pub returns-in-Up : goal.returns-in-Up
returns-in-Up g c = open_up g.D.Disk g.met.D.Disk.only_now c.every_registry.ensures.in_version_2 c.args.self _ c.in-Up.store c.in-Up.other c.in-Up.is refl refl
