use Rattle.std.proofs.Common.{◌+◌, ◌≡◌, ◌≤◌, ⊎_elim, inl, inr, refl, sym, ◌∙◌, ap, subst, arith, true, false, [], Err}
use Rattle.std.specs.Prelude.{Some}
use Rattle.wm_disk.specs.declared.refusal.Refusal.{Refusal}
use Rattle.wm_disk.specs.declared.refusal.Refusal.TheVariants.{DeviceFailed}
use Rattle.wm_disk.specs.Counters.{max_counter}
use Rattle.wm_checkpoint.specs.Kept.{slot_number_of}
use Rattle.wm_checkpoint.specs.laws.Numbering.{numbered_more}
use Rattle.wm_store.proofs.Meant.{roomy}
use Rattle.wm_store.proofs.Keepers.{checkpoint_facts}
use Rattle.wm_store.proofs.Batching.{past_same, past_switched, spared_none, cut_switching, calls_none, whole_none, ready_on, ready_same, empty_size, is_device}
use Rattle.wm_store.proofs.batch.Batch.switch.Goals as goal

pub checkpoint-requires : goal.checkpoint-requires
checkpoint-requires g c = record { roomy = roomy g.V.Filed.version g.V.Layout.sizes g.met.V.Filed.laid_out; kept = c.requires.ready.kept }

pub returns-in-Ok : goal.returns-in-Ok
returns-in-Ok g c =
    let D = g.D.Disk in
    let old = c.args.keeper.now in
    let new = c.checkpoint.new.self in
    let b = c.args.self.now in
    let e = c.in-Ok.ensures in
    let k = checkpoint_facts g.V.Layout.sizes g.V.Filed.version old new _ e.kept e.switched e.crash e.device e.refusals e.exhausted in
    let none = c.requires.none in
    record {
      goes_on = record {
        ready = ready_on D g.V.Layout.sizes g.V.Filed.version old new b b c.requires.ready k.kept k.slot.3 k.state (omega (arith, empty_size D g.V.Layout.sizes g.V.Filed.version old b c.requires.ready none, k.slot.2)) refl refl refl refl;
        same = (refl, refl);
        room = record { replies = omega arith; group = omega arith };
        past = λ start done p. past_switched D g.V.Layout.sizes g.V.Filed.version start done old new b p k.state k.honest (k.any_moment c.requires.ready.whole);
      };
      made = inl (c.requires.open_yet, none, k.slot.2);
      cut = tt;
      keeper = record {
        calls = record { least = omega (arith, k.slot.1); most = omega (arith, k.slot.1); honest = k.honest; later = k.later; numbered = λ h n le all x left. numbered_more g.V.Layout.sizes (slot_number_of old + 1) (n + 1) x (omega (arith, le)) (k.numbered c.requires.ready.whole h x left) };
        whole = record { kept = k.kept; up = k.slot.3; count = k.whole };
        down = tt;
      };
    }

pub returns-in-Exhausted : goal.returns-in-Exhausted
returns-in-Exhausted g c =
    let D = g.D.Disk in
    let old = c.args.keeper.now in
    let new = c.checkpoint.new.self in
    let b = c.args.self.now in
    let f = c.in-Err.ensures in
    let k = checkpoint_facts g.V.Layout.sizes g.V.Filed.version old new _ f.kept f.switched f.crash f.device f.refusals f.exhausted in
    let none = c.requires.none in
    let same : new ≡ old = ⊎_elim (λ e. (k.exhausted (ap (λ (x : Refusal). Err x) e)).1) (λ e. k.memory (ap (λ (x : Refusal). Err x) e)) c.in-Exhausted.is in
    record {
      goes_on = record {
        ready = ready_same D g.V.Layout.sizes g.V.Filed.version old new b _ c.requires.ready same refl refl refl refl;
        same = (refl, refl);
        room = record { replies = omega arith; group = omega arith };
        past = λ start done p. past_same D g.V.Layout.sizes g.V.Filed.version start done old new b _ p same refl refl refl (inl refl);
      };
      made = ⊎_elim
          (λ e. inr (inr (ap (λ (x : Refusal). Some x) e, none, subst (λ y. max_counter ≤ slot_number_of y) (sym same) (k.exhausted (ap (λ (x : Refusal). Err x) e)).0, (λ _. same), spared_none D g.V.Layout.sizes g.V.Filed.version old new b.group.items [] same (sym none))))
          (λ e. inr (inl (ap (λ (x : Refusal). Some x) e, λ _. same)))
          c.in-Exhausted.is;
      cut = tt;
      keeper = record {
        calls = calls_none D g.V.Layout.sizes g.V.Filed.version 1 old new same;
        whole = whole_none D g.V.Layout.sizes g.V.Filed.version old new same c.requires.ready.kept c.requires.ready.whole;
        down = tt;
      };
    }

pub returns-in_default : goal.returns-in_default
returns-in_default g c =
    let D = g.D.Disk in
    let old = c.args.keeper.now in
    let new = c.checkpoint.new.self in
    let b = c.args.self.now in
    let f = c.in-Err.ensures in
    let k = checkpoint_facts g.V.Layout.sizes g.V.Filed.version old new _ f.kept f.switched f.crash f.device f.refusals f.exhausted in
    let is : c.in-Err.refusal ≡ DeviceFailed = is_device c.in-Err.refusal k.kinds c.in_default.not-NoMemory c.in_default.not-Exhausted
    (λ e. let up : true ≡ false = sym (k.down (ap (λ (x : Refusal). Err x) e)).0 ∙ c.requires.ready.whole in absurd cc) in
    let fell = k.failed (ap (λ (x : Refusal). Err x) is) in
    record {
      goes_on = tt;
      made = tt;
      cut = λ start done p. cut_switching D g.V.Layout.sizes g.V.Filed.version start done old new b p c.requires.none k.state k.honest (k.any_moment c.requires.ready.whole);
      keeper = record {
        calls = record { least = omega (arith, k.stays.1); most = omega (arith, k.stays.1); honest = k.honest; later = k.later; numbered = λ h n le all x left. numbered_more g.V.Layout.sizes (slot_number_of old + 1) (n + 1) x (omega (arith, le)) (k.numbered c.requires.ready.whole h x left) };
        whole = tt;
        down = record { kept = k.kept; down = fell.1; rose = fell.0 };
      };
    }
