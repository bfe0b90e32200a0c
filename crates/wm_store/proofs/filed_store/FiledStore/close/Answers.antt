use Rattle.std.proofs.Common.{◌≡◌, ◌⊎◌, ⊎_elim, inl, inr, refl, ap, sym, ◌∙◌, subst, true, false}
use Rattle.std.specs.Prelude.{Option, Result, Ok, Err, IfErr, IsErrOf}
use Rattle.std.specs.Option.{unwrap_or}
use Rattle.wm_registry.specs.Roots.{State}
use Rattle.wm_checkpoint.specs.Kept.{disk_of, state_of}
use Rattle.wm_disk.specs.Moments.{LeavesOnly}
use Rattle.wm_disk.specs.declared.refusal.Refusal.{Refusal}
use Rattle.wm_disk.specs.declared.refusal.Refusal.TheVariants.{DeviceFailed, NoMemory, StoreFailed}
use Rattle.wm_store.proofs.Meant.{means_registry}
use Rattle.wm_store.proofs.Keepers.{sync_facts}
use Rattle.wm_store.proofs.Runs.{stood}
use Rattle.wm_store.proofs.Stores.{left_registry, stored, inside_after, uncalled}
use Rattle.wm_store.proofs.filed_store.FiledStore.close.Goals as goal
use Rattle.wm_store.specs.Meant.{MeansRegistry}

not_memory : (r : Result Unit Refusal) → IfErr r (λ e. (e ≡ DeviceFailed) ⊎ (e ≡ StoreFailed)) → IsErrOf r NoMemory → ⊥
not_memory (Ok x) h is = absurd cc
not_memory (Err e) (inl h) is = absurd cc
not_memory (Err e) (inr h) is = absurd cc

pub sync-requires : goal.sync-requires
sync-requires g c = record { kept = c.self.invariant.0 }

pub invariant_of-self : goal.invariant_of-self
invariant_of-self g c =
    let i = c.self.inside in
    let e = c.sync.ensures in
    let k = sync_facts g.V.Layout.sizes g.V.Filed.version i.keeper c.sync.new.self c.sync.result e.kept e.same e.synced e.crash e.device e.refusals in
    inside_after g.D.Disk g.V.Layout.sizes g.V.Filed.version g.met.V.Filed.laid_out g.met.D.Disk.counts_now i.keeper c.sync.new.self i.before i.closed true c.self.invariant k.kept k.state
    (λ down. let same = (k.down (k.stays_down down)).1 in (ap (λ x. x.failed) same ∙ down, λ h. (k.honest h, λ x left. subst (λ y. g.D.Disk.may_leave (disk_of y) x) same left)))
    k.any_moment

pub invariant_of-self-in-Err : goal.invariant_of-self-in-Err
invariant_of-self-in-Err g c =
    let i = c.self.inside in
    let e = c.sync.ensures in
    let k = sync_facts g.V.Layout.sizes g.V.Filed.version i.keeper c.sync.new.self c.sync.result e.kept e.same e.synced e.crash e.device e.refusals in
    inside_after g.D.Disk g.V.Layout.sizes g.V.Filed.version g.met.V.Filed.laid_out g.met.D.Disk.counts_now i.keeper c.sync.new.self i.before i.closed i.closed c.self.invariant k.kept k.state
    (λ down. let same = (k.down (k.stays_down down)).1 in (ap (λ x. x.failed) same ∙ down, λ h. (k.honest h, λ x left. subst (λ y. g.D.Disk.may_leave (disk_of y) x) same left)))
    k.any_moment

pub returns-then-self : goal.returns-then-self
returns-then-self g c =
    let i = c.self.inside in
    rw (← c.self.view_is) (record {
      closed = tt;
      room = refl;
      registry = (refl, refl);
      means = λ h. tt;
      any_moment = λ alive h. subst (λ (b : Option State). LeavesOnly g.D.Disk.moment g.D.Disk.left_since (disk_of i.keeper) (disk_of i.keeper) (MeansRegistry (unwrap_or b (state_of i.keeper)))) (sym (c.self.invariant.1 alive)) (left_registry g.D.Disk g.V.Layout.sizes g.V.Filed.version g.met.V.Filed.laid_out (disk_of i.keeper) (disk_of i.keeper) (state_of i.keeper) (stood g.D.Disk g.V.Layout.sizes g.V.Filed.version g.met.D.Disk.only_now i.keeper c.self.invariant.0 alive h));
      calls = uncalled g.D.Disk (Err StoreFailed) (stored g.D.Disk i.keeper i.before i.closed) (λ e. absurd cc) tt (λ e. inr c.if-self.true) (λ over. refl);
      kinds = inr refl;
    })

pub returns-in-Ok : goal.returns-in-Ok
returns-in-Ok g c =
    let D = g.D.Disk in
    let i = c.self.inside in
    let new = c.sync.new.self in
    let e = c.in-Ok.ensures in
    let k = sync_facts g.V.Layout.sizes g.V.Filed.version i.keeper new _ e.kept e.same e.synced e.crash e.device e.refusals in
    rw (← c.self.view_is) (record {
      closed = refl;
      room = k.slot.2;
      registry = (ap (unwrap_or i.before) k.state, k.slot.1);
      means = λ h x left. subst (λ (b : Option State). MeansRegistry (unwrap_or b (state_of new)) x) (sym ((invariant_of-self g c).1 k.ok)) (means_registry g.V.Layout.sizes g.V.Filed.version g.met.V.Filed.laid_out (state_of new) x (k.means h x left));
      any_moment = λ alive h. subst (λ (b : Option State). LeavesOnly D.moment D.left_since (disk_of i.keeper) (disk_of new) (MeansRegistry (unwrap_or b (state_of i.keeper)))) (sym (c.self.invariant.1 alive)) (left_registry D g.V.Layout.sizes g.V.Filed.version g.met.V.Filed.laid_out (disk_of i.keeper) (disk_of new) (state_of i.keeper) (k.any_moment alive h));
      calls = record {
        device = record { honest = k.honest; failures_grow = k.later; no_failure = k.whole; failed = λ e. absurd cc; failures_kept = tt };
        works = k.ok;
        failed = λ e. absurd cc;
        memory = λ e. absurd cc;
        down = λ e. absurd cc;
        stays_down = λ over. ⊎_elim (λ down. let clash = sym c.in-Ok.is ∙ c.sync.ensures.refusals.stays_down down in absurd cc) (λ shut. let clash : true ≡ false = sym shut ∙ c.if-self.false in absurd cc) over;
      };
      kinds = tt;
    })

pub returns-in-Err : goal.returns-in-Err
returns-in-Err g c =
    let D = g.D.Disk in
    let i = c.self.inside in
    let new = c.sync.new.self in
    let e = c.in-Err.ensures in
    let k = sync_facts g.V.Layout.sizes g.V.Filed.version i.keeper new _ e.kept e.same e.synced e.crash e.device e.refusals in
    rw (← c.self.view_is) (record {
      closed = tt;
      room = k.slot.2;
      registry = (ap (unwrap_or i.before) k.state, k.slot.1);
      means = λ h. tt;
      any_moment = λ alive h. subst (λ (b : Option State). LeavesOnly D.moment D.left_since (disk_of i.keeper) (disk_of new) (MeansRegistry (unwrap_or b (state_of i.keeper)))) (sym (c.self.invariant.1 alive)) (left_registry D g.V.Layout.sizes g.V.Filed.version g.met.V.Filed.laid_out (disk_of i.keeper) (disk_of new) (state_of i.keeper) (k.any_moment alive h));
      calls = record {
        device = record {
          honest = k.honest;
          failures_grow = k.later;
          no_failure = tt;
          failed = λ e. (k.failed e).0;
          failures_kept = λ no. ⊎_elim (λ e. absurd (no e)) (λ e. ap (λ y. D.failures (disk_of y)) (k.down (ap (λ y. Err y) e)).1) k.kinds;
        };
        works = tt;
        failed = λ e. (k.failed e).1;
        memory = λ e. absurd (not_memory (Err c.in-Err.refusal) k.kinds e);
        down = λ e. let x = k.down e in (inl x.0, ap (λ y. stored D y i.before i.closed) x.1);
        stays_down = λ over. ⊎_elim (λ down. k.stays_down down) (λ shut. let clash : true ≡ false = sym shut ∙ c.if-self.false in absurd cc) over;
      };
      kinds = k.kinds;
    })
