use Rattle.std.proofs.Common.{⊎_elim, refl, ap, ◌∙◌}
use Rattle.std.specs.Prelude.{Err}
use Rattle.wm_world.specs.declared.other.Other.TheVariants.{Nothing, Old}
use Rattle.wm_world.specs.declared.world.Server.TheVariants.{Down}
use Rattle.wm_world.specs.Steps.{is_to_migrate}
use Rattle.wm_world.proofs.Migrations.{migrate_beside, migrate_cut, migrate_done, migrate_refused, migrate_up}
use Rattle.wm_world.proofs.world.World.migrate.Goals as goal

pub returns-in-Up : goal.returns-in-Up
returns-in-Up g c = migrate_up g.D.Disk c.args.self _ c.in-Up.store c.in-Up.other c.in-Up.is refl refl

pub returns-in-Nothing : goal.returns-in-Nothing
returns-in-Nothing g c = migrate_beside g.D.Disk c.args.self _ c.in-Down.disk Nothing (c.in-Down.is ∙ ap (Down c.in-Down.disk) c.in-Nothing.is) refl refl (λ w b. ap is_to_migrate b.0)

pub returns-in-Old : goal.returns-in-Old
returns-in-Old g c = migrate_beside g.D.Disk c.args.self _ c.in-Down.disk (Old c.in-Old.disk) (c.in-Down.is ∙ ap (Down c.in-Down.disk) c.in-Old.is) refl refl (λ w b. ap is_to_migrate b.0)

pub returns-in-Ok : goal.returns-in-Ok
returns-in-Ok g c =
    let e = c.migrate.ensures in
    let r = c.in-Ok.ensures in
    migrate_done g.D.Disk c.every_registry.ensures.in_version_2 c.args.self _ c.in-Down.disk c.in-New.disk (c.in-Down.is ∙ ap (Down c.in-Down.disk) c.in-New.is) c.every_file.ensures c.every_registry.ensures.rises c.every_registry.ensures.in_order
    g.met.D.Disk.reads_stand g.met.D.Disk.counts_now c.migrate.new.old c.migrate.new.new refl e.calls.honest refl r.calls.no_failure r.migrated

pub returns-in_ok-unless_memory-in-Err : goal.returns-in_ok-unless_memory-in-Err
returns-in_ok-unless_memory-in-Err g c =
    let e = c.migrate.ensures in
    let r = c.in-Err.ensures in
    let was = c.in-Down.is ∙ ap (Down c.in-Down.disk) c.in-New.is in
    ⊎_elim
    (λ is. migrate_cut g.D.Disk c.every_registry.ensures.in_version_2 c.args.self _ c.in-Down.disk c.in-New.disk was c.every_file.ensures c.every_registry.ensures.rises c.every_registry.ensures.in_order
    g.met.D.Disk.reads_stand g.met.D.Disk.counts_now c.migrate.new.old c.migrate.new.new refl e.calls.honest refl e.calls.failures_grow (r.calls.failed (ap Err is)) e.any_moment e.numbered)
    (⊎_elim (λ is. absurd (c.in_ok-unless_memory-in-Err.ensures is))
    (λ is. migrate_refused g.D.Disk c.every_registry.ensures.in_version_2 c.args.self _ c.in-Down.disk c.in-New.disk was c.every_file.ensures c.every_registry.ensures.rises c.every_registry.ensures.in_order
    g.met.D.Disk.reads_stand g.met.D.Disk.counts_now c.migrate.new.old c.migrate.new.new refl e.calls.honest refl (λ h k. r.damaged h k (ap Err is))))
    r.kinds
