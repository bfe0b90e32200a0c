use Rattle.std.proofs.Common.{[], ◌∷◌, Err, ap, inl}
use Rattle.wm_disk.specs.declared.refusal.Refusal.TheVariants.{StoreFailed}
use Rattle.wm_session.specs.local.LocalLaws.{stays}
use Rattle.wm_session.proofs.lemmas.local.LocalLemmas.{err_is, leads_alone, met_alone, not_true, only_reply, refused_alone, refused_leads}
use Rattle.wm_session.proofs.local.local_front.commit_alone.Goals as goal

pub returns-in_default-clause-later : goal.returns-in_default-clause-later
returns-in_default-clause-later g c = stays g.D.Disk (c.args.command ∷ []) c.args.store.now

pub returns-in-Ok-commit_batch-clause-met : goal.returns-in-Ok-commit_batch-clause-met
returns-in-Ok-commit_batch-clause-met g c =
    let told = rw c.in-Ok.ensures.items at c.in-Ok-commit_batch.ensures in
    let old = c.args.store.now in
    let new = c.commit_batch.new.self in
    let works = not_true old.failed (λ failed. let bad = told.calls.stays_down (inl failed) in absurd cc) in
    λ views.
    met_alone g.D.Disk old new c.args.command c.requires.plain c.in-Ok-commit_batch.replies.items c.index.result.now views
    (only_reply old.registry.version new.number new.room old.registry c.args.command c.in-Ok-commit_batch.replies.items c.index.result.now told.committed.batch.answered c.index.ensures)
    works told.calls.works told.calls.device.no_failure told.number.0 told.committed.batch told.committed.registry

pub returns-in-Ok-commit_batch-clause-later : goal.returns-in-Ok-commit_batch-clause-later
returns-in-Ok-commit_batch-clause-later g c =
    let told = rw c.in-Ok.ensures.items at c.in-Ok-commit_batch.ensures in
    let old = c.args.store.now in
    let works = not_true old.failed (λ failed. let bad = told.calls.stays_down (inl failed) in absurd cc) in
    leads_alone g.D.Disk old c.commit_batch.new.self c.args.command c.requires.plain c.in-Ok-commit_batch.replies.items works told.calls.works told.calls.device.honest told.calls.device.failures_grow told.committed.batch told.committed.registry

pub returns-in-Err-clause-met : goal.returns-in-Err-clause-met
returns-in-Err-clause-met g c =
    let told = rw c.in-Ok.ensures.items at c.in-Err.ensures in
    λ views.
    refused_alone g.D.Disk c.args.store.now c.commit_batch.new.self c.args.command c.requires.plain c.in-Err.refusal views (record {
      up = c.requires.up;
      registry = told.unchanged;
      honest = told.calls.device.honest;
      failures = told.calls.device.failures_grow;
      number = told.number.0;
      cut = told.cut;
      memory = λ e. told.calls.memory (ap Err e);
      down = λ e. told.calls.down (ap Err e);
      stays_down = λ e. err_is c.commit_batch.result c.in-Err.refusal StoreFailed c.in-Err.is (c.commit_batch.ensures.calls.stays_down e);
      failed = λ e. (told.calls.device.failed (ap Err e), told.calls.failed (ap Err e));
      kinds = told.kinds;
    })

pub returns-in-Err-clause-later : goal.returns-in-Err-clause-later
returns-in-Err-clause-later g c =
    let told = rw c.in-Ok.ensures.items at c.in-Err.ensures in
    refused_leads g.D.Disk c.args.store.now c.commit_batch.new.self c.args.command c.requires.plain g.met.D.Disk.counts_now c.in-Err.refusal (record {
      up = c.requires.up;
      registry = told.unchanged;
      honest = told.calls.device.honest;
      failures = told.calls.device.failures_grow;
      number = told.number.0;
      cut = told.cut;
      memory = λ e. told.calls.memory (ap Err e);
      down = λ e. told.calls.down (ap Err e);
      stays_down = λ e. err_is c.commit_batch.result c.in-Err.refusal StoreFailed c.in-Err.is (c.commit_batch.ensures.calls.stays_down e);
      failed = λ e. (told.calls.device.failed (ap Err e), told.calls.failed (ap Err e));
      kinds = told.kinds;
    })
