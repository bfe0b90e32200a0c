use Rattle.std.proofs.Common.{◌+◌, inl, subst, arith}
use Rattle.wm_disk.specs.laws.Runs.{left_after_run}
use Rattle.wm_checkpoint.specs.laws.Numbering.{numbered_more}
use Rattle.wm_registry.specs.Versions.{sizes_of}
use Rattle.wm_store.proofs.Opened.{damaged_file, WasFound, was_found, kinds_found, not_exhausted, retired_file}
use Rattle.wm_store.proofs.store.Store.open.Goals as goal

pub returns-in-Err : goal.returns-in-Err
returns-in-Err g c =
    let D = g.D.Disk in
    let k = c.in-Err.ensures in
    record {
      begun = tt;
      works = tt;
      why = λ h. record {
        damaged = λ is. damaged_file (D.seen c.args.disk) (k.damaged h is);
        retired = λ is. retired_file (D.seen c.args.disk) (k.retired h is);
        exhausted = λ is. absurd (not_exhausted c.in-Err.refusal k.kinds is);
      };
      left = λ h. record {
        cut = inl (k.any_moment.1 h);
        unbegun = λ no. inl (k.any_moment.1 h);
        refused = λ is. absurd (not_exhausted c.in-Err.refusal k.kinds is);
        still = λ is. absurd (not_exhausted c.in-Err.refusal k.kinds is);
        short = λ is. inl (k.any_moment.1 h);
        seen = λ up room. k.seen.1 h;
        numbered = λ s means n all x left. numbered_more (sizes_of s.version) n (n + 1) x (omega arith) (all x (left_after_run D g.met.D.Disk.counts_now c.args.disk c.in-Err.disk (D.may_leave c.args.disk) h (k.any_moment.1 h) x left));
      };
      calls = record { honest = (tt, k.device.honest.1); failures_grow = (tt, k.device.failures_grow.1); no_failure = tt; failed = k.device.failed; failures_kept = k.device.failures_kept };
      kinds = kinds_found c.in-Err.refusal k.kinds;
    }

pub returns-in-Ok : goal.returns-in-Ok
returns-in-Ok g c =
    let k = c.in-Ok-One.ensures in
    let t = c.in-Ok.ensures c.args.disk (subst (λ e. WasFound g.D.Disk c.args.disk e) c.in-Ok-One.field-0-is (was_found g.D.Disk c.args.disk c.in-Ok-One.field-0 k.opened k.seen.0 k.any_moment.0 k.device.honest.0 k.device.no_failure)) in
    record { begun = t.begun; works = t.works; why = tt; left = tt; calls = t.calls; kinds = tt }

pub returns-in-Err-take_up : goal.returns-in-Err-take_up
returns-in-Err-take_up g c =
    let k = c.in-Ok-One.ensures in
    let t = c.in-Err-take_up.ensures c.args.disk (subst (λ e. WasFound g.D.Disk c.args.disk e) c.in-Ok-One.field-0-is (was_found g.D.Disk c.args.disk c.in-Ok-One.field-0 k.opened k.seen.0 k.any_moment.0 k.device.honest.0 k.device.no_failure)) in
    record { begun = tt; works = tt; why = t.why; left = t.left; calls = t.calls; kinds = t.kinds }

pub returns-in-Ok-take_up : goal.returns-in-Ok-take_up
returns-in-Ok-take_up g c =
    let k = c.in-Ok-Two.ensures in
    let t = c.in-Ok-take_up.ensures c.args.disk (subst (λ e. WasFound g.D.Disk c.args.disk e) c.in-Ok-Two.field-0-is (was_found g.D.Disk c.args.disk c.in-Ok-Two.field-0 k.opened k.seen.0 k.any_moment.0 k.device.honest.0 k.device.no_failure)) in
    record { begun = t.begun; works = t.works; why = tt; left = tt; calls = t.calls; kinds = tt }

pub returns-in-Err-take_up-2 : goal.returns-in-Err-take_up-2
returns-in-Err-take_up-2 g c =
    let k = c.in-Ok-Two.ensures in
    let t = c.in-Err-take_up-2.ensures c.args.disk (subst (λ e. WasFound g.D.Disk c.args.disk e) c.in-Ok-Two.field-0-is (was_found g.D.Disk c.args.disk c.in-Ok-Two.field-0 k.opened k.seen.0 k.any_moment.0 k.device.honest.0 k.device.no_failure)) in
    record { begun = tt; works = tt; why = t.why; left = t.left; calls = t.calls; kinds = t.kinds }
