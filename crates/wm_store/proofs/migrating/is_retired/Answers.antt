use Rattle.std.proofs.Common.{false, refl}
use Rattle.wm_checkpoint.specs.Layout.{sizes_1}
use Rattle.wm_disk.specs.declared.refusal.Refusal.TheVariants.{Damaged}
use Rattle.wm_registry.specs.declared.version.Version.TheVariants.{One}
use Rattle.wm_store.proofs.Meant.{means_registry, version_of}
use Rattle.wm_store.proofs.TwoFiles.{calls_err, err_of, kinds_unretired, reads_err, reads_ok}
use Rattle.wm_store.proofs.migrating.is_retired.Goals as goal

pub returns-in-Ok-clause-means : goal.returns-in-Ok-clause-means
returns-in-Ok-clause-means g c = λ h no.
    let s = c.in-Ok.registry in
    let content = g.D.Disk.seen c.args.disk.now in
    let means = c.in-Ok.ensures.found h in
    (s, version_of sizes_1 One s content means, means_registry sizes_1 One refl s content means)

pub returns-in-Ok-clause-reads : goal.returns-in-Ok-clause-reads
returns-in-Ok-clause-reads g c = λ h. reads_ok g.D.Disk c.args.disk.now c.read.new.disk c.in-Ok.registry false (c.in-Ok.ensures.reads h)

pub returns-in_default : goal.returns-in_default
returns-in_default g c =
    let e = c.in-Err.refusal in
    record {
      retired = λ h. tt;
      means = λ h. tt;
      damaged = λ h is. c.in-Err.ensures.damaged h (err_of e Damaged is);
      reads = λ h. reads_err g.D.Disk c.args.disk.now c.read.new.disk e e (c.in-Err.ensures.reads h);
      device = calls_err g.D.Disk c.args.disk.now c.read.new.disk e c.in-Err.ensures.device;
      kinds = kinds_unretired e c.in_default.not-Retired c.in-Err.ensures.kinds;
    }
