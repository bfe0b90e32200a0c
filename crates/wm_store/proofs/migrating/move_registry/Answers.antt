use Rattle.std.proofs.Common.{ℕ, List, [], sym, subst}
use Rattle.wm_checkpoint.specs.FirstFile.{IsFirstFile}
use Rattle.wm_checkpoint.specs.Meanings.{Means, slot_bytes}
use Rattle.wm_checkpoint.specs.Layout.{sizes_1, sizes_2}
use Rattle.wm_checkpoint.specs.Numbers.{IsNumberedTo}
use Rattle.wm_checkpoint.specs.declared.layout.Slot.TheVariants.{A}
use Rattle.wm_registry.specs.MachineLaws.{watches}
use Rattle.wm_registry.specs.Roots.{State}
use Rattle.wm_registry.specs.declared.version.Version.TheVariants.{Two}
use Rattle.wm_store.proofs.TwoFiles.{calls_cut, holds_moved, meant_by_either, meant_still, numbered_still, stays_retired}
use Rattle.wm_store.proofs.migrating.move_registry.Goals as goal

pub returns-in_err-format-clause-any_moment : goal.returns-in_err-format-clause-any_moment
returns-in_err-format-clause-any_moment g c = λ ho hn.
    meant_still g.D.Disk g.met.D.Disk.counts_now g.met.D.Disk.only_now c.args.old.now c.format.new.disk c.args.registry ho (c.requires.durable ho) (c.requires.meant ho)

pub returns-in_err-format-clause-numbered : goal.returns-in_err-format-clause-numbered
returns-in_err-format-clause-numbered g c = λ ho n all x left.
    subst (λ (y : List ℕ). IsNumberedTo sizes_1 n y) (sym (c.requires.durable ho x left)) all

pub returns-in_err-retire-clause-any_moment : goal.returns-in_err-retire-clause-any_moment
returns-in_err-retire-clause-any_moment g c = λ ho hn.
    let D = g.D.Disk in
    let old = c.args.old.now in
    let new = c.format.new.disk in
    let before = c.retire.ensures.device.honest ho in
    let means = subst (λ (s : State). Means (watches Two) (D.seen new) A 1 s []) c.into_version_2-moved.ensures (c.in_ok-format.ensures.formatted hn) in
    let holds = holds_moved D new c.args.registry (c.in_ok-format.ensures.durable hn) means in
    meant_by_either D g.met.D.Disk.counts_now g.met.D.Disk.only_now old c.retire.new.disk new c.args.registry holds (c.retire.ensures.any_moment c.args.registry ho (c.requires.durable before) (c.requires.meant before))

pub returns-in_err-retire-clause-numbered : goal.returns-in_err-retire-clause-numbered
returns-in_err-retire-clause-numbered g c = λ ho n all.
    let before = c.retire.ensures.device.honest ho in
    numbered_still g.D.Disk g.met.D.Disk.counts_now g.met.D.Disk.only_now c.args.old.now c.retire.new.disk c.args.registry ho (c.retire.ensures.any_moment c.args.registry ho (c.requires.durable before) (c.requires.meant before)) n all

pub returns-in_err-retire-clause-calls : goal.returns-in_err-retire-clause-calls
returns-in_err-retire-clause-calls g c =
    calls_cut g.D.Disk c.in_err-retire.field-0.0 c.args.old.now c.args.new.now c.retire.new.disk c.format.new.disk c.from_residual-in_err-retire.result c.from_residual-in_err-retire.ensures.1 c.in_err-retire.ensures.device c.in_ok-format.ensures.device.honest c.in_ok-format.ensures.device.no_failure

pub returns-clause-moved : goal.returns-clause-moved
returns-clause-moved g c = λ ho hn.
    let D = g.D.Disk in
    let old = c.args.old.now in
    let new = c.format.new.disk in
    let before = c.retire.ensures.device.honest ho in
    let means = subst (λ (s : State). Means (watches Two) (D.seen new) A 1 s []) c.into_version_2-moved.ensures (c.in_ok-format.ensures.formatted hn) in
    record {
      holds = holds_moved D new c.args.registry (c.in_ok-format.ensures.durable hn) means;
      first = subst (λ (s : State). IsFirstFile sizes_2 (slot_bytes (watches Two).state 1 s) (D.seen new)) c.into_version_2-moved.ensures (c.in_ok-format.ensures.first hn);
      retired = stays_retired D c.retire.new.disk (c.in_ok-retire.ensures.durable ho) (c.in_ok-retire.ensures.retired c.args.registry ho (c.requires.meant before));
      gate = c.in_ok-retire.ensures.written ho;
    }

pub returns-clause-any_moment : goal.returns-clause-any_moment
returns-clause-any_moment g c = λ ho hn.
    let D = g.D.Disk in
    let old = c.args.old.now in
    let new = c.format.new.disk in
    let before = c.retire.ensures.device.honest ho in
    let means = subst (λ (s : State). Means (watches Two) (D.seen new) A 1 s []) c.into_version_2-moved.ensures (c.in_ok-format.ensures.formatted hn) in
    let holds = holds_moved D new c.args.registry (c.in_ok-format.ensures.durable hn) means in
    meant_by_either D g.met.D.Disk.counts_now g.met.D.Disk.only_now old c.retire.new.disk new c.args.registry holds (c.retire.ensures.any_moment c.args.registry ho (c.requires.durable before) (c.requires.meant before))

pub returns-clause-numbered : goal.returns-clause-numbered
returns-clause-numbered g c = λ ho n all.
    let before = c.retire.ensures.device.honest ho in
    numbered_still g.D.Disk g.met.D.Disk.counts_now g.met.D.Disk.only_now c.args.old.now c.retire.new.disk c.args.registry ho (c.retire.ensures.any_moment c.args.registry ho (c.requires.durable before) (c.requires.meant before)) n all
