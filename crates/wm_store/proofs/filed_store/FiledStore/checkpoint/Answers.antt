use Rattle.std.proofs.Common.{◌≡◌, ◌+◌, ⊎_elim, inl, inr, refl, ap, sym, ◌∙◌, subst, arith, List, ℕ, true, false, []}
use Rattle.std.specs.Prelude.{Option, Result, Ok, Err, OnOk}
use Rattle.std.specs.Option.{unwrap_or}
use Rattle.std.proofs.lemmas.Result.{on_ok_weaker, on_err_weaker}
use Rattle.wm_registry.specs.Roots.{State}
use Rattle.wm_registry.specs.MachineLaws.{watches_in}
use Rattle.wm_checkpoint.specs.Meanings.{Means}
use Rattle.wm_checkpoint.specs.Layout.{other_slot}
use Rattle.wm_checkpoint.specs.Kept.{disk_of, state_of, slot_of, slot_number_of, has_failed, room_left}
use Rattle.wm_disk.specs.Moments.{LeavesOnly}
use Rattle.wm_disk.specs.declared.refusal.Refusal.TheVariants.{StoreFailed}
use Rattle.wm_store.specs.Checkpoints.{IsCheckpointed}
use Rattle.wm_store.specs.UnderWay.{K}
use Rattle.wm_checkpoint.specs.laws.Uncalled.{kept_numbered}
use Rattle.wm_checkpoint.specs.laws.Numbering.{numbered_more}
use Rattle.wm_store.proofs.Keepers.{checkpoint_facts}
use Rattle.wm_store.proofs.Runs.{stood, told_four}
use Rattle.wm_store.proofs.Stores.{counted_up, numbered_up, left_registry, stored, inside_after, uncalled}
use Rattle.wm_store.proofs.Meant.{means_own, roomy}
use Rattle.wm_registry.specs.declared.machine.Watches.{Watches}
use Rattle.wm_store.proofs.filed_store.FiledStore.checkpoint.Goals as goal
use Rattle.wm_store.specs.Meant.{MeansRegistry}

-- what a success has on an honest disk, beside what it has on each
by_honest : {T E : Type 0} (r : Result T E) (H P Q R : Type 0) → ((H → P) → Q → R) → (H → OnOk r P) → OnOk r Q → OnOk r R
by_honest (Ok x) H P Q R f p q = f p q
by_honest (Err e) H P Q R f p q = tt

pub checkpoint-requires : goal.checkpoint-requires
checkpoint-requires g c = record { roomy = roomy g.V.Filed.version g.V.Layout.sizes g.met.V.Filed.laid_out; kept = c.self.invariant.0 }

pub invariant_of-self : goal.invariant_of-self
invariant_of-self g c =
    let i = c.self.inside in
    let e = c.checkpoint.ensures in
    let k = checkpoint_facts g.V.Layout.sizes g.V.Filed.version i.keeper c.checkpoint.new.self c.checkpoint.result e.kept e.switched e.crash e.device e.refusals e.exhausted in
    inside_after g.D.Disk g.V.Layout.sizes g.V.Filed.version g.met.V.Filed.laid_out g.met.D.Disk.counts_now i.keeper c.checkpoint.new.self i.before i.closed i.closed c.self.invariant k.kept k.state
    (λ down. let same = (k.down (k.stays_down down)).1 in (ap (λ x. x.failed) same ∙ down, λ h. (k.honest h, λ x left. subst (λ y. g.D.Disk.may_leave (disk_of y) x) same left)))
    k.any_moment

pub returns-then-self : goal.returns-then-self
returns-then-self g c =
    let i = c.self.inside in
    rw (← c.self.view_is) (record {
      checkpointed = tt;
      number = refl;
      registry = refl;
      throughout = λ alive. record {
        any_moment = λ h. subst (λ (b : Option State). LeavesOnly g.D.Disk.moment g.D.Disk.left_since (disk_of i.keeper) (disk_of i.keeper) (MeansRegistry (unwrap_or b (state_of i.keeper)))) (sym (c.self.invariant.1 alive)) (left_registry g.D.Disk g.V.Layout.sizes g.V.Filed.version g.met.V.Filed.laid_out (disk_of i.keeper) (disk_of i.keeper) (state_of i.keeper) (stood g.D.Disk g.V.Layout.sizes g.V.Filed.version g.met.D.Disk.only_now i.keeper c.self.invariant.0 alive h));
        counted = λ h x left. counted_up g.D.Disk g.V.Layout.sizes g.V.Filed.version g.met.V.Filed.laid_out i.keeper c.self.invariant.0 alive i.before (c.self.invariant.1 alive) h x left;
        numbered = λ h x left. numbered_up g.D.Disk g.V.Layout.sizes g.V.Filed.version g.met.V.Filed.laid_out i.keeper c.self.invariant.0 alive i.before c.self.invariant.1 h _ x (numbered_more g.V.Layout.sizes (slot_number_of i.keeper) (slot_number_of i.keeper + 1) x (omega arith) (kept_numbered g.D.Disk (watches_in g.V.Layout.sizes g.V.Filed.version) i.keeper (c.self.invariant.0.kept alive h) x left));
      };
      exhausted = λ e. absurd cc;
      spent = λ alive shut. let clash : true ≡ false = sym c.if-self.true ∙ shut in absurd cc;
      calls = uncalled g.D.Disk (Err StoreFailed) (stored g.D.Disk i.keeper i.before i.closed) (λ e. absurd cc) tt (λ e. inr c.if-self.true) (λ over. refl);
      kinds = inr (inr (inr refl));
    })

pub returns : goal.returns
returns g c =
    let D = g.D.Disk in
    let r = c.checkpoint.result in
    let i = c.self.inside in
    let e = c.checkpoint.ensures in
    let k = checkpoint_facts g.V.Layout.sizes g.V.Filed.version i.keeper c.checkpoint.new.self c.checkpoint.result e.kept e.switched e.crash e.device e.refusals e.exhausted in
    let old = i.keeper in
    let new = c.checkpoint.new.self in
    let inside = invariant_of-self g c in
    let same = λ (y : K (Watches g.row.V.Denot) g.row.V.Denot D). stored D y i.before i.closed in
    let IsNext = (slot_of new ≡ other_slot (slot_of old)) × (slot_number_of new ≡ slot_number_of old + 1) × (room_left new ≡ 262143) × (has_failed new ≡ false) in
    rw (← c.self.view_is) (record {
      checkpointed = by_honest r (D.honest (disk_of new)) (Means (watches_in g.V.Layout.sizes g.V.Filed.version) (D.seen (disk_of new)) (slot_of new) (slot_number_of new) (state_of old) []) IsNext (IsCheckpointed D (same old) (same new))
          (λ here s. record {
            in_new_slot = λ h.
                let kept = k.kept.kept s.3 h in
                let means : Means (watches_in g.V.Layout.sizes g.V.Filed.version) (D.seen (disk_of new)) (slot_of new) (slot_number_of new) (unwrap_or i.before (state_of new)) [] =
                subst (λ (b : Option State). Means (watches_in g.V.Layout.sizes g.V.Filed.version) (D.seen (disk_of new)) (slot_of new) (slot_number_of new) (unwrap_or b (state_of new)) []) (sym (inside.1 s.3))
                (subst (λ (t : State). Means (watches_in g.V.Layout.sizes g.V.Filed.version) (D.seen (disk_of new)) (slot_of new) (slot_number_of new) t []) (sym k.state) (here h)) in
                (slot_of new, λ x left. means_own g.V.Layout.sizes g.V.Filed.version g.met.V.Filed.laid_out x (slot_of new) (slot_number_of new) (unwrap_or i.before (state_of new)) (subst (λ (l : List ℕ). Means (watches_in g.V.Layout.sizes g.V.Filed.version) l (slot_of new) (slot_number_of new) (unwrap_or i.before (state_of new)) []) (sym (kept.at_rest.durable x left)) means));
            number = s.1;
            room = s.2;
            open_yet = c.if-self.false;
          })
          e.in_new_slot k.slot;
      number = on_err_weaker r (λ s. s.1) k.stays;
      registry = ap (unwrap_or i.before) k.state;
      throughout = λ alive. record {
        any_moment = λ h. subst (λ (b : Option State). LeavesOnly D.moment D.left_since (disk_of old) (disk_of new) (MeansRegistry (unwrap_or b (state_of old)))) (sym (c.self.invariant.1 alive)) (left_registry D g.V.Layout.sizes g.V.Filed.version g.met.V.Filed.laid_out (disk_of old) (disk_of new) (state_of old) (k.any_moment alive h));
        counted = λ h x left. counted_up D g.V.Layout.sizes g.V.Filed.version g.met.V.Filed.laid_out old c.self.invariant.0 alive i.before (c.self.invariant.1 alive) h x left;
        numbered = λ h x left. numbered_up D g.V.Layout.sizes g.V.Filed.version g.met.V.Filed.laid_out old c.self.invariant.0 alive i.before c.self.invariant.1 (k.honest h) _ x (k.numbered alive h x left);
      };
      exhausted = λ e. let x = k.exhausted e in (x.0, ap same x.1);
      spent = λ alive shut n. k.spent alive n;
      calls = record {
        device = record {
          honest = k.honest;
          failures_grow = k.later;
          no_failure = k.whole;
          failed = λ e. (k.failed e).0;
          failures_kept = told_four r (D.failures (disk_of new) ≡ D.failures (disk_of old)) k.kinds
              (λ e. ap (λ y. D.failures (disk_of y)) (k.memory e))
              (λ e. ap (λ y. D.failures (disk_of y)) (k.exhausted e).1)
              (λ e. ap (λ y. D.failures (disk_of y)) (k.down e).1);
        };
        works = on_ok_weaker r (λ s. s.3) k.slot;
        failed = λ e. (k.failed e).1;
        memory = λ e. ap same (k.memory e);
        down = λ e. let x = k.down e in (inl x.0, ap same x.1);
        stays_down = λ over. ⊎_elim (λ down. k.stays_down down) (λ shut. let clash : true ≡ false = sym shut ∙ c.if-self.false in absurd cc) over;
      };
      kinds = k.kinds;
    })
