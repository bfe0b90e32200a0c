use Rattle.std.proofs.Common.{◌≡◌, ◌-◌, ◌++◌, map, sym, ap, ◌∙◌, refl, subst, arith}
use Rattle.std.specs.List.{range_with_len}
use Rattle.wm_registry.specs.Roots.{State}
use Rattle.wm_store.specs.Batches.{IsOutOfMemory}
use Rattle.wm_view.specs.Histories.{new_history}
use Rattle.wm_view.specs.Summaries.{summary}
use Rattle.std.specs.Prelude.{Err}
use Rattle.wm_world.specs.declared.world.Server.TheVariants.{Down}
use Rattle.wm_world.proofs.Stores.{batch_cut, batch_done, too_long}
use Rattle.wm_world.proofs.Calls.{commands_down}
use Rattle.wm_world.proofs.world.World.commands.Goals as goal

pub returns-then-len-gt-MAX_BATCH : goal.returns-then-len-gt-MAX_BATCH
returns-then-len-gt-MAX_BATCH g c = too_long g.D.Disk c.every_registry.ensures.in_version_2 g.met.D.Disk.only_now c.args.self c.args.commands.items (omega (arith, c.if-len-gt-MAX_BATCH.true, c.len.ensures))

pub returns-in_ok-show-in-Ok : goal.returns-in_ok-show-in-Ok
returns-in_ok-show-in-Ok g c =
    let e = c.commit_batch.ensures in
    let r = c.in-Ok.ensures in
    let from : c.next_root-next.result ≡ c.in-Up.store.registry.next = c.next_root-next.ensures ∙ ap (λ (x : State). x.next) c.registry.ensures.value in
    let registry = c.registry-in-Ok.ensures.value in
    batch_done g.D.Disk c.every_registry.ensures.in_version_2 c.args.self _ c.in-Up.store c.commit_batch.new.self c.in-Up.other c.args.commands.items c.in-Ok.replies.items c.in-Up.is (omega (arith, c.if-len-gt-MAX_BATCH.false, c.len.ensures))
    refl refl refl
    (c.in_ok-show-in-Ok.ensures.views ∙ (λ i. c.args.self.shown.views.items ++ map summary (map (new_history (registry i).incarnation) (range_with_len (from i) ((registry i).next - from i)))))
    r.committed.batch.answered (λ is. c.in_ok-show-in-Ok.ensures.memory (subst IsOutOfMemory (sym c.deref.ensures.value) is)) r.committed.registry e.calls.device.honest r.calls.device.no_failure r.calls.works r.committed.open_yet e.number.1 r.committed.means
    e.numbered r.committed.batch.any_moment

pub returns-in_ok-unless_memory-in-Err : goal.returns-in_ok-unless_memory-in-Err
returns-in_ok-unless_memory-in-Err g c =
    let e = c.commit_batch.ensures in
    let r = c.in-Err.ensures in
    batch_cut g.D.Disk c.every_registry.ensures.in_version_2 c.args.self _ c.in-Up.store c.commit_batch.new.self c.in-Up.other c.in-Up.is (c.fallen.ensures.down ∙ ap (λ d. Down d c.in-Up.other) c.into_disk.ensures.value) c.fallen.ensures.views c.fallen.ensures.replies c.fallen.ensures.clients e.calls.device.honest
    g.met.D.Disk.counts_now c.args.commands.items c.in-Err.refusal (omega (arith, c.if-len-gt-MAX_BATCH.false, c.len.ensures))
    r.kinds c.in_ok-unless_memory-in-Err.ensures (λ is. (r.calls.down (ap Err is)).0)
    (λ whole. let f = r.cut whole in (f.0, (f.1.answered, f.1.any_moment, f.2))) (λ is. r.calls.device.failed (ap Err is)) e.calls.device.failures_grow e.number.1
    e.numbered

pub returns-in-Down : goal.returns-in-Down
returns-in-Down g c = commands_down g.D.Disk g.met.D.Disk.only_now c.every_registry.ensures.in_version_2 c.args.self _ c.in-Down.disk c.in-Down.other c.in-Down.is refl refl c.args.commands.items
