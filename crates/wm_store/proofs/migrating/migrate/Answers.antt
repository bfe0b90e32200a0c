use Rattle.std.proofs.Common.{inl, inr, ℕ, List, sym, ap, subst}
use Rattle.std.specs.Prelude.{Err}
use Rattle.wm_disk.specs.declared.refusal.Refusal.{Refusal}
use Rattle.wm_disk.specs.declared.refusal.Refusal.TheVariants.{Damaged}
use Rattle.wm_checkpoint.specs.Layout.{sizes_1}
use Rattle.wm_checkpoint.specs.Meanings.{IsRetired, MeansState}
use Rattle.wm_checkpoint.specs.Numbers.{IsNumberedTo}
use Rattle.wm_registry.specs.MachineLaws.{watches}
use Rattle.wm_registry.specs.declared.version.Version.TheVariants.{One}
use Rattle.wm_store.specs.Meant.{MeansRegistry}
use Rattle.wm_store.proofs.TwoFiles.{calls_old, err_of, kinds_unretired, moves_now, moves_only, not_damaged, on_both, on_err, on_ok, reads_old, stays_numbered, unwritten_by}
use Rattle.wm_store.proofs.migrating.migrate.Goals as goal

-- ---- the old file was read

pub move_registry-requires-clause-meant : goal.move_registry-requires-clause-meant
move_registry-requires-clause-meant g c = λ h. subst (λ (x : List ℕ). MeansState (watches One) c.in-Ok.registry x) (sym (c.in-Ok.ensures.reads h).seen) (c.in-Ok.ensures.found h)

pub returns-in-Ok-clause-migrated : goal.returns-in-Ok-clause-migrated
returns-in-Ok-clause-migrated g c = λ ho hn.
    let m = c.move_registry.ensures in
    let read = m.calls.honest.0 ho in
    on_ok c.move_registry.result
    (λ p. inl (moves_now g.D.Disk c.args.old.now c.read.new.disk c.move_registry.new.old c.move_registry.new.new c.in-Ok.registry (c.in-Ok.ensures.found read) (c.in-Ok.ensures.reads read).any_moment (m.any_moment ho hn) (c.in-Ok.ensures.reads read).seen p))
    (m.moved ho hn)

pub returns-in-Ok-clause-any_moment : goal.returns-in-Ok-clause-any_moment
returns-in-Ok-clause-any_moment g c = λ ho hn.
    let m = c.move_registry.ensures in
    let read = m.calls.honest.0 ho in
    inr (moves_only g.D.Disk c.args.old.now c.read.new.disk c.move_registry.new.old c.move_registry.new.new c.in-Ok.registry (c.in-Ok.ensures.found read) (c.in-Ok.ensures.reads read).any_moment (m.any_moment ho hn))

pub returns-in-Ok-clause-numbered : goal.returns-in-Ok-clause-numbered
returns-in-Ok-clause-numbered g c = λ ho n all.
    let D = g.D.Disk in
    let m = c.move_registry.ensures in
    let read = m.calls.honest.0 ho in
    let old = c.args.old.now in
    m.numbered ho n (subst (λ (x : List ℕ). IsNumberedTo sizes_1 n x) (sym (c.in-Ok.ensures.reads read).seen) (all (D.seen old) (g.met.D.Disk.reads_stand old (c.in-Ok.ensures.device.honest read))))

pub returns-in-Ok-clause-damaged : goal.returns-in-Ok-clause-damaged
returns-in-Ok-clause-damaged g c = λ ho hn is. absurd (not_damaged c.move_registry.result c.move_registry.ensures.kinds is)

pub returns-in-Ok-clause-unwritten : goal.returns-in-Ok-clause-unwritten
returns-in-Ok-clause-unwritten g c = λ ho hn.
    let m = c.move_registry.ensures in
    let read = m.calls.honest.0 ho in
    on_err c.move_registry.result
    (λ e still ne. unwritten_by g.D.Disk g.met.D.Disk.counts_now g.met.D.Disk.only_now c.args.old.now c.read.new.disk c.move_registry.new.old c.args.new.now c.move_registry.new.new c.read.result (m.calls.honest.1 hn) (c.read.ensures.reads read) (still ne).0 (still ne).1)
    m.unwritten

-- ---- the old file is retired

pub returns-in-Retired-clause-migrated : goal.returns-in-Retired-clause-migrated
returns-in-Retired-clause-migrated g c = λ ho hn.
    let was = c.in-Err.ensures.retired ho (ap (λ (e : Refusal). Err e) c.in-Retired.is) in
    let only = c.in-Err.ensures.settled ho (ap (λ (e : Refusal). Err e) c.in-Retired.is) in
    let read = c.in-Err.ensures.reads ho in
    let found = c.find_moved.ensures.reads hn in
    on_both c.find_moved.result
    (λ means durable. inr (record {
      was = was;
      writes = record { old_seen = read.seen; new_seen = found.seen; old_left = read.any_moment; new_left = found.any_moment };
      retired = λ x left. subst (λ (y : List ℕ). IsRetired sizes_1 y) (sym (only x left)) was;
      registry = means.0;
      version = means.1;
      means = λ x left. subst (λ (y : List ℕ). MeansRegistry means.0 y) (sym (durable x left)) means.2;
    }))
    (c.find_moved.ensures.means hn) found.durable

pub returns-in-Retired-clause-numbered : goal.returns-in-Retired-clause-numbered
returns-in-Retired-clause-numbered g c = λ ho.
    stays_numbered g.D.Disk g.met.D.Disk.counts_now g.met.D.Disk.only_now c.args.old.now c.read.new.disk ho (c.in-Err.ensures.reads ho).any_moment

pub returns-in-Retired-clause-damaged : goal.returns-in-Retired-clause-damaged
returns-in-Retired-clause-damaged g c = λ ho hn is. inr (c.in-Err.ensures.retired ho (ap (λ (e : Refusal). Err e) c.in-Retired.is), c.find_moved.ensures.damaged hn is)

-- ---- the reading was refused

pub returns-in_default : goal.returns-in_default
returns-in_default g c =
    let D = g.D.Disk in
    let e = c.in-Err.refusal in
    let old = c.args.old.now in
    let new = c.args.new.now in
    let mid = c.read.new.disk in
    record {
      migrated = λ ho hn. tt;
      any_moment = λ ho hn. inl (reads_old D g.met.D.Disk.counts_now g.met.D.Disk.only_now old mid new c.read.result hn (c.read.ensures.reads ho));
      numbered = λ ho. stays_numbered D g.met.D.Disk.counts_now g.met.D.Disk.only_now old mid ho (c.in-Err.ensures.reads ho).any_moment;
      damaged = λ ho hn is. inl (c.in-Err.ensures.damaged ho (err_of e Damaged is));
      unwritten = λ ho hn ne. reads_old D g.met.D.Disk.counts_now g.met.D.Disk.only_now old mid new c.read.result hn (c.read.ensures.reads ho);
      calls = calls_old D old new mid e c.in-Err.ensures.device;
      kinds = kinds_unretired e c.in_default.not-Retired c.in-Err.ensures.kinds;
    }
