use Rattle.std.proofs.Common.{◌≡◌, ◌≤◌, ◌+◌, ℕ, Result, Ok, Err, OnOk, OnErr, refl, ap, sym, ◌∙◌, arith}
use Rattle.std.specs.Prelude.{true, false, IsErrOf}
use Rattle.std.proofs.lemmas.Result.{on_ok_weaker, on_err_weaker}
use Rattle.wm_disk.specs.declared.refusal.Refusal.{Refusal}
use Rattle.wm_disk.specs.declared.refusal.Refusal.TheVariants.{DeviceFailed}
use Rattle.wm_checkpoint.specs.Kept.{disk_of, has_failed, slot_number_of}
use Rattle.wm_checkpoint.specs.laws.Numbering.{numbered_more}
use Rattle.wm_store.proofs.Meant.{roomy}
use Rattle.wm_store.proofs.Keepers.{checkpoint_facts}
use Rattle.wm_store.proofs.Beginning.{stands_still, uncalled}
use Rattle.wm_store.proofs.Runs.{kinds_up, told_four}
use Rattle.wm_store.proofs.begin.find_room.Goals as goal

not_failed : (r : Result Unit Refusal) → OnErr r ⊥ → IsErrOf r DeviceFailed → ⊥
not_failed (Ok x) none e = absurd cc
not_failed (Err x) none e = none

pub returns-then-room-ge-BEGIN : goal.returns-then-room-ge-BEGIN
returns-then-room-ge-BEGIN g c = record {
  calls = uncalled g.D.Disk g.V.Layout.sizes g.V.Filed.version (Ok tt) c.args.keeper.now c.requires.kept c.requires.whole (not_failed (Ok tt) tt);
  still = stands_still g.D.Disk g.V.Layout.sizes g.V.Filed.version g.met.D.Disk.only_now c.args.keeper.now c.requires.kept c.requires.whole;
  stays = λ le. refl;
  found = record {
    room = omega (arith, c.room.ensures, c.if-room-ge-BEGIN.true);
    moves = λ less. absurd (omega (arith, c.room.ensures, c.if-room-ge-BEGIN.true, less));
  };
  exhausted = λ e. absurd cc;
  kinds = tt;
}

pub checkpoint-requires : goal.checkpoint-requires
checkpoint-requires g c = record { roomy = roomy g.V.Filed.version g.V.Layout.sizes g.met.V.Filed.laid_out; kept = c.requires.kept }

one_more_at_most : {T E : Type 0} (r : Result T E) (m n : ℕ) → OnOk r (n ≡ m + 1) → OnErr r (n ≡ m) → (m ≤ n) × (n ≤ m + 1)
one_more_at_most (Ok x) m n a b = (omega (arith, a), omega (arith, a))
one_more_at_most (Err e) m n a b = (omega (arith, b), omega (arith, b))

pub returns : goal.returns
returns g c =
    let D = g.D.Disk in
    let old = c.args.keeper.now in
    let new = c.checkpoint.new.self in
    let e = c.checkpoint.ensures in
    let k = checkpoint_facts g.V.Layout.sizes g.V.Filed.version old new c.checkpoint.result e.kept e.switched e.crash e.device e.refusals e.exhausted in
    let between = one_more_at_most c.checkpoint.result (slot_number_of old) (slot_number_of new) (on_ok_weaker c.checkpoint.result (λ h. h.1) k.slot) (on_err_weaker c.checkpoint.result (λ h. h.1) k.stays) in
    record {
      calls = record {
        kept = k.kept;
        calls = record {
          least = between.0;
          most = between.1;
          honest = k.honest;
          later = k.later;
          numbered = λ h n le all x left. numbered_more g.V.Layout.sizes (slot_number_of old + 1) (n + 1) x (omega (arith, le)) (k.numbered c.requires.whole h x left);
        };
        device = record {
          honest = k.honest;
          failures_grow = k.later;
          no_failure = k.whole;
          failed = λ e. (k.failed e).0;
          failures_kept = told_four c.checkpoint.result (D.failures (disk_of new) ≡ D.failures (disk_of old)) k.kinds
              (λ e. ap (λ y. D.failures (disk_of y)) (k.memory e))
              (λ e. ap (λ y. D.failures (disk_of y)) (k.exhausted e).1)
              (λ e. ap (λ y. D.failures (disk_of y)) (k.down e).1);
        };
        works = on_ok_weaker c.checkpoint.result (λ h. h.3) k.slot;
        unfailed = told_four c.checkpoint.result (has_failed new ≡ false) k.kinds
            (λ e. ap (λ y. has_failed y) (k.memory e) ∙ c.requires.whole)
            (λ e. ap (λ y. has_failed y) (k.exhausted e).1 ∙ c.requires.whole)
            (λ e. ap (λ y. has_failed y) (k.down e).1 ∙ c.requires.whole);
      };
      still = record { state = k.state; any_moment = k.any_moment c.requires.whole };
      stays = λ le. absurd (omega (arith, c.room.ensures, c.if-room-ge-BEGIN.false, le));
      found = on_ok_weaker c.checkpoint.result (λ h. record { room = omega (arith, h.2); moves = λ less. (h.1, h.2) }) k.slot;
      exhausted = λ e. let x = k.exhausted e in (x.0, x.1);
      kinds = kinds_up c.checkpoint.result k.kinds (λ e. absurd (let up : true ≡ false = sym (k.down e).0 ∙ c.requires.whole in cc));
    }
