use Rattle.std.proofs.Common.{ap, ◌∙◌, refl}
use Rattle.std.specs.Prelude.{Err}
use Rattle.wm_world.specs.declared.world.Server.TheVariants.{Down}
use Rattle.wm_world.proofs.Stores.{checkpoint_cut, checkpoint_done, checkpoint_spent}
use Rattle.wm_world.proofs.Calls.{checkpoint_down}
use Rattle.wm_world.proofs.world.World.checkpoint.Goals as goal

pub returns-then-branch : goal.returns-then-branch
returns-then-branch g c =
    let e = c.checkpoint.ensures in
    let r = c.in-Err.ensures in
    checkpoint_cut g.D.Disk c.every_registry.ensures.in_version_2 c.args.self _ c.in-Up.store c.checkpoint.new.self c.in-Up.other c.in-Up.is (c.fallen.ensures.down ∙ ap (λ d. Down d c.in-Up.other) c.into_disk.ensures.value) c.fallen.ensures.views c.fallen.ensures.replies c.fallen.ensures.clients e.calls.device.honest
    g.met.D.Disk.counts_now c.in-Err.refusal r.kinds c.in_ok-takes_down-in-Err.ensures.memory (c.in_ok-takes_down-in-Err.ensures.down c.if-branch.true)
    (λ is. (r.calls.down (ap Err is)).0) (λ alive. (e.throughout alive).any_moment) (λ is. r.calls.device.failed (ap Err is)) e.calls.device.failures_grow
    (λ alive. (e.throughout alive).numbered)

pub returns-else-branch : goal.returns-else-branch
returns-else-branch g c =
    let spent = c.in-Err.ensures.exhausted (ap Err (c.in_ok-takes_down-in-Err.ensures.up c.if-branch.false)) in
    checkpoint_spent g.D.Disk c.every_registry.ensures.in_version_2 c.args.self _ c.in-Up.store c.checkpoint.new.self c.in-Up.other c.in-Up.is refl refl refl refl spent.1 spent.0 (λ alive. (c.checkpoint.ensures.throughout alive).counted) (λ alive. (c.checkpoint.ensures.throughout alive).any_moment)

pub returns-in-Ok : goal.returns-in-Ok
returns-in-Ok g c =
    let e = c.checkpoint.ensures in
    let r = c.in-Ok.ensures in
    checkpoint_done g.D.Disk c.every_registry.ensures.in_version_2 c.args.self _ c.in-Up.store c.checkpoint.new.self c.in-Up.other c.in-Up.is refl refl refl refl
    e.calls.device.honest r.calls.device.no_failure r.calls.works r.checkpointed.open_yet r.checkpointed.number e.registry r.checkpointed.in_new_slot (λ alive. (e.throughout alive).counted) (λ alive. (e.throughout alive).any_moment)

pub returns-in-Down : goal.returns-in-Down
returns-in-Down g c = checkpoint_down g.D.Disk g.met.D.Disk.only_now c.every_registry.ensures.in_version_2 c.args.self _ c.in-Down.disk c.in-Down.other c.in-Down.is refl refl
