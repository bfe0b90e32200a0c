use Rattle.std.proofs.Common.{◌⊎◌, ◌≡◌, ◌∙◌, subst, arith, ℕ}
use Rattle.std.proofs.lemmas.Result.{IfOk-weaker, IfErr-weaker}
use Rattle.wm_disk.specs.Contents.{Rose}
use Rattle.wm_disk.specs.declared.refusal.Refusal.{Refusal}
use Rattle.wm_disk.specs.declared.refusal.Refusal.TheVariants.{Exhausted, DeviceFailed, NoMemory}
use Rattle.wm_checkpoint.specs.Kept.{disk_of}
use Rattle.wm_store.specs.Beginnings.{IsBegunFrom, IsUnbegun}
use Rattle.wm_store.specs.Stored.{Stored}
use Rattle.wm_store.proofs.Opened.{is_begun, journal_is, left_by, why_refused, if_ok_both, if_err_both, kinds_begun}
use Rattle.wm_store.proofs.filed_store.take_up.Goals as goal

pub returns : goal.returns
returns g c = λ old k.
    let D = g.D.Disk in
    let keeper = c.args.keeper in
    let l = g.V.Layout.sizes in
    let v = g.V.Filed.version in
    let laid = g.met.V.Filed.laid_out in
    let b = c.begin.ensures in
    let r = c.begin.result in
    let kept = λ (h : D.honest (disk_of keeper)). k.opened.kept.kept k.opened.up h in
    let IsKind = λ (e : Refusal × g.row.D.Denot). (e.0 ≡ DeviceFailed) ⊎ (e.0 ≡ NoMemory) ⊎ (e.0 ≡ Exhausted) in
    let IsLeft = λ (e : Refusal × g.row.D.Denot). IsUnbegun D l v keeper e.0 e.1 × (D.honest e.1 → D.honest (disk_of keeper)) in
    let left = if_err_both r (λ (e : Refusal × g.row.D.Denot) (p : IsUnbegun D l v keeper e.0 e.1) (q : D.honest e.1 → D.honest (disk_of keeper)). (p, q)) b.unbegun b.calls.honest.1 in
    record {
      begun = if_ok_both r
          (λ (s : Stored g.row.D.Denot) (is : IsBegunFrom D l v keeper s) (there : D.honest s.disk → D.honest (disk_of keeper)).
          λ h. let up = there h in is_begun D l v laid old keeper (kept up) (k.seen up) (k.any_moment up) s (is.any_moment h) is.changed is.registry is.number (journal_is D l v keeper k.opened.kept (kept up)) is.stays is.moves)
          b.begun b.calls.honest.0;
      works = b.works;
      why = if_err_both r
          (λ (e : Refusal × g.row.D.Denot) (kind : IsKind e) (is : IsLeft e).
          λ h. let mid = is.1 h in why_refused D l v laid old keeper (kept mid) (k.seen mid) e.1 e.0 kind is.0)
          b.kinds left;
      left = if_err_both r
          (λ (e : Refusal × g.row.D.Denot) (kind : IsKind e) (is : IsLeft e).
          λ h. let mid = is.1 h in left_by D l v laid old keeper (kept mid) (k.seen mid) e.1 e.0 kind is.0 g.met.D.Disk.counts_now (g.met.D.Disk.reads_stand old (k.honest mid)) (k.any_moment mid) mid h)
          b.kinds left;
      calls = record {
        honest = (IfOk-weaker r _ _ (λ s f h. k.honest (f h)) b.calls.honest.0, IfErr-weaker r _ _ (λ e f h. k.honest (f h)) b.calls.honest.1);
        failures_grow = (IfOk-weaker r _ _ (λ s le. omega (arith, k.failures, le)) b.calls.failures_grow.0, IfErr-weaker r _ _ (λ e le. omega (arith, k.failures, le)) b.calls.failures_grow.1);
        no_failure = IfOk-weaker r _ _ (λ s same. same ∙ k.failures) b.calls.no_failure;
        failed = IfErr-weaker r _ _ (λ e rose is. subst (λ (n : ℕ). Rose n (D.failures e.1)) k.failures (rose is)) b.calls.failed;
        failures_kept = IfErr-weaker r _ _ (λ e same no. same no ∙ k.failures) b.calls.failures_kept;
      };
      kinds = IfErr-weaker r _ _ (λ e kind. kinds_begun e.0 kind) b.kinds;
    }
