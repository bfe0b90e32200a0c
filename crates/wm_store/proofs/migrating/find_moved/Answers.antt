use Rattle.std.proofs.Common.{refl, subst}
use Rattle.wm_checkpoint.specs.Layout.{sizes_2}
use Rattle.wm_checkpoint.specs.Meanings.{MeansState}
use Rattle.wm_disk.specs.declared.refusal.Refusal.TheVariants.{Damaged}
use Rattle.wm_registry.specs.MachineLaws.{watches}
use Rattle.wm_registry.specs.declared.version.Version.{Version}
use Rattle.wm_registry.specs.declared.version.Version.TheVariants.{Two}
use Rattle.wm_store.proofs.Meant.{means_registry, version_of}
use Rattle.wm_store.proofs.TwoFiles.{calls_err, err_of, kinds_unretired, reads_err, reads_ok}
use Rattle.wm_store.proofs.migrating.find_moved.Goals as goal

pub returns-in-Ok-clause-means : goal.returns-in-Ok-clause-means
returns-in-Ok-clause-means g c = λ h.
    let s = c.in-Ok.registry in
    let content = g.D.Disk.seen c.args.new.now in
    let means = c.in-Ok.ensures.found h in
    (s, version_of sizes_2 Two s content means, means_registry sizes_2 Two refl s content means)

pub returns-in-Ok-clause-reads : goal.returns-in-Ok-clause-reads
returns-in-Ok-clause-reads g c = λ h. reads_ok g.D.Disk c.args.new.now c.read.new.disk c.in-Ok.registry tt (c.in-Ok.ensures.reads h)

pub returns-in_default : goal.returns-in_default
returns-in_default g c =
    let e = c.in-Err.refusal in
    record {
      means = λ h. tt;
      damaged = λ h is s version means. (c.in-Err.ensures.damaged h (err_of e Damaged is)).0 s (subst (λ (v : Version). MeansState (watches v) s (g.D.Disk.seen c.args.new.now)) version means);
      reads = λ h. reads_err g.D.Disk c.args.new.now c.read.new.disk e e (c.in-Err.ensures.reads h);
      device = calls_err g.D.Disk c.args.new.now c.read.new.disk e c.in-Err.ensures.device;
      kinds = kinds_unretired e c.in_default.not-Retired c.in-Err.ensures.kinds;
    }
