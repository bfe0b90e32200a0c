use Rattle.std.proofs.Common.{Err, ap, inl, inr, refl}
use Rattle.std.proofs.lemmas.Result.{err_from_is_err_and}
use Rattle.wm_server.proofs.lemmas.program.MigrationLemmas.{move_refused}
use Rattle.wm_server.proofs.program.migration.write_moved.Goals as goal

pub returns-in_err-migrate-clause-moved : goal.returns-in_err-migrate-clause-moved
returns-in_err-migrate-clause-moved g c =
    let p = err_from_is_err_and c.from_residual.result c.from_residual.ensures.1 in
    let why = c.in_err-migrate.ensures in
    rw (p.1, p.2) (inl (
      refl,
      move_refused g.D.Disk c.args.old.now c.args.new.now c.migrate.new.old c.migrate.new.new c.in_err-migrate.field-0.0 why.kinds
          (λ is. why.calls.failed (ap Err is)) (λ h k is. why.damaged h k (ap Err is)) why.unwritten,
    ))

pub returns-in-Err-clause-moved : goal.returns-in-Err-clause-moved
returns-in-Err-clause-moved g c = inr (refl, c.in-Err.ensures.failed, c.in_ok-migrate.ensures.migrated)
