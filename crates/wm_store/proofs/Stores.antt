-- What a store keeps after a call of its keeper.
use Rattle.std.proofs.Common.{◌≡◌, ◌⊎◌, ⊎_elim, inl, inr, refl, sym, ◌∙◌, ap, subst, arith, ℕ, Bool, true, false, List, []}
use Rattle.std.specs.Prelude.{Option, None, Result, Ok, Err, OnOk, IsErrOf}
use Rattle.std.specs.Option.{unwrap_or}
use Rattle.wm_disk.specs.Contents.{NoMore}
use Rattle.wm_disk.specs.declared.disk.Disk as disks
use Rattle.wm_disk.specs.declared.refusal.Refusal.{Refusal}
use Rattle.wm_disk.specs.declared.refusal.Refusal.TheVariants.{DeviceFailed, StoreFailed}
use Rattle.wm_registry.specs.declared.command.Command.{Command}
use Rattle.wm_registry.specs.Roots.{State}
use Rattle.wm_registry.specs.MachineLaws.{watches_in}
use Rattle.wm_registry.specs.Versions.{sizes_of}
use Rattle.wm_checkpoint.specs.Layout.{Sizes}
use Rattle.wm_checkpoint.specs.Meanings.{Means, MeansState, MeansPrefix}
use Rattle.wm_checkpoint.specs.Kept.{disk_of, state_of, has_failed, slot_number_of, room_left, IsKept, Keeps}
use Rattle.wm_checkpoint.specs.laws.Uncalled.{kept_means}
use Rattle.wm_checkpoint.specs.Numbers.{IsNumberedTo}
use Rattle.wm_store.specs.Calls.{CallsStore, IsOver}
use Rattle.wm_store.specs.Stored.{Stored, IsStored}
use Rattle.wm_store.proofs.Runs.{Leaves}
use Rattle.wm_disk.specs.laws.Runs.{CountsNow, left_after_run, weaker}
use Rattle.wm_registry.specs.declared.version.Version.{Version}
use Rattle.wm_store.specs.Meant.{MeansAfter, MeansRegistry}
use Rattle.wm_store.specs.UnderWay.{K}
use Rattle.wm_store.proofs.Meant.{after_none, means_after, means_numbered, means_registry, version_of}

pub either_bool : (b : Bool) → (b ≡ true) ⊎ (b ≡ false)
either_bool true = inl refl
either_bool false = inr refl

module _ {D M V : Type 0} (disk : disks.Ghosts D) where
  -- a store, by its fields
  abbrev pub stored : K M V disk → Option State → Bool → Stored D
  stored keeper before closed = record { disk = disk_of keeper; registry = unwrap_or before (state_of keeper); failed = has_failed keeper; closed = closed; number = slot_number_of keeper; room = room_left keeper }

  pub not_over : (keeper : K M V disk) (before : Option State) (closed : Bool) → has_failed keeper ≡ false → closed ≡ false → IsOver (stored keeper before closed) → ⊥
  not_over keeper before closed alive shut (inl down) = let clash : true ≡ false = sym down ∙ alive in absurd cc
  not_over keeper before closed alive shut (inr over) = let clash : true ≡ false = sym over ∙ shut in absurd cc

module _ {D : Type 0} (disk : disks.Ghosts D) where
  -- what a run leaves, as a registry
  pub left_registry : (l : Sizes) (v : Version) (laid : l ≡ sizes_of v) (old new : D) (s : State) → Leaves disk old new (MeansState (watches_in l v) s) → Leaves disk old new (MeansRegistry s)
  left_registry l v laid old new s run = weaker disk.moment disk.left_since old new (MeansState (watches_in l v) s) (MeansRegistry s) run (means_registry l v laid s)

  -- an answer without a call of the disk, which isn't its failure
  pub uncalled : {T : Type 0} (result : Result T Refusal) (store : Stored D) → (IsErrOf result DeviceFailed → ⊥) → OnOk result (store.failed ≡ false) → (IsErrOf result StoreFailed → IsOver store) → (IsOver store → IsErrOf result StoreFailed) → CallsStore disk store store result
  uncalled (Ok x) store none works down over = record {
    device = record { honest = λ h. h; failures_grow = omega arith; no_failure = refl; failed = λ e. absurd (none e); failures_kept = tt };
    works = works;
    failed = λ e. absurd (none e);
    memory = λ e. refl;
    down = λ e. (down e, refl);
    stays_down = over;
  }
  uncalled (Err e) store none works down over = record {
    device = record { honest = λ h. h; failures_grow = omega arith; no_failure = tt; failed = λ e. absurd (none e); failures_kept = λ no. refl };
    works = tt;
    failed = λ e. absurd (none e);
    memory = λ e. refl;
    down = λ e. (down e, refl);
    stays_down = over;
  }

module _ {D M V : Type 0} (disk : disks.Ghosts D) (l : Sizes) (v : Version) (laid : l ≡ sizes_of v) where
  -- what it keeps
  abbrev pub IsInside : K M V disk → Option State → Bool → Type 0
  IsInside keeper before closed = Keeps (watches_in l v) keeper × (has_failed keeper ≡ false → before ≡ None) × IsStored disk (stored disk keeper before closed)

  pub means_kept : (keeper : K M V disk) → Keeps (watches_in l v) keeper → has_failed keeper ≡ false → disk.honest (disk_of keeper) → (c : List ℕ) → disk.may_leave (disk_of keeper) c → MeansState (watches_in l v) (state_of keeper) c
  means_kept keeper kp alive h c left = kept_means disk (watches_in l v) keeper (kp.kept alive h) c left

  pub means_up : (keeper : K M V disk) → Keeps (watches_in l v) keeper → has_failed keeper ≡ false → disk.honest (disk_of keeper) → (c : List ℕ) → disk.may_leave (disk_of keeper) c → MeansRegistry (state_of keeper) c
  means_up keeper kp alive h c left = means_registry l v laid (state_of keeper) c (kept_means disk (watches_in l v) keeper (kp.kept alive h) c left)

  -- under the number of the keeper's slot
  pub counted_up : (keeper : K M V disk) → Keeps (watches_in l v) keeper → has_failed keeper ≡ false → (before : Option State) → before ≡ None → disk.honest (disk_of keeper) → (c : List ℕ) → disk.may_leave (disk_of keeper) c
      → (m : MeansRegistry (unwrap_or before (state_of keeper)) c) × (m.number ≡ slot_number_of keeper)
  counted_up keeper kp alive before none h c left =
      let k : IsKept (watches_in l v) keeper = kp.kept alive h in
      let m : MeansState (watches_in l v) (unwrap_or before (state_of keeper)) c = record {
        slot = keeper.slot;
        number = keeper.number;
        base = k.base;
        commands = k.commands;
        means = subst (λ (x : List ℕ). Means (watches_in l v) x keeper.slot keeper.number k.base k.commands) (sym (k.at_rest.durable c left)) k.means;
        is = k.is ∙ subst (λ (b : Option State). state_of keeper ≡ unwrap_or b (state_of keeper)) (sym none) refl;
      } in
      means_numbered l v laid (unwrap_or before (state_of keeper)) c m

  -- the numbers of slots, by the version of the registry
  pub numbered_up : (keeper : K M V disk) → Keeps (watches_in l v) keeper → has_failed keeper ≡ false → (before : Option State) → (has_failed keeper ≡ false → before ≡ None) → disk.honest (disk_of keeper) → (n : ℕ) (c : List ℕ)
      → IsNumberedTo l n c → IsNumberedTo (sizes_of (unwrap_or before (state_of keeper)).version) n c
  numbered_up keeper kp alive before none h n c is =
      let k : IsKept (watches_in l v) keeper = kp.kept alive h in
      let m : MeansState (watches_in l v) (state_of keeper) (disk.seen (disk_of keeper)) = record { slot = keeper.slot; number = keeper.number; base = k.base; commands = k.commands; means = k.means; is = k.is } in
      let same : l ≡ sizes_of (unwrap_or before (state_of keeper)).version =
      laid ∙ ap sizes_of (sym (version_of l v (state_of keeper) (disk.seen (disk_of keeper)) m)) ∙ ap (λ (b : Option State). sizes_of (unwrap_or b (state_of keeper)).version) (sym (none alive)) in
      subst (λ (s : Sizes). IsNumberedTo s n c) same is

  -- a store whose keeper hasn't failed
  pub up : (keeper : K M V disk) → Keeps (watches_in l v) keeper → has_failed keeper ≡ false → (closed : Bool) → IsInside keeper None closed
  up keeper kp alive closed = (
    kp,
    λ _. refl,
    record {
      means = λ _ h c left. means_up keeper kp alive h c left;
      failed = λ down. let clash : true ≡ false = sym down ∙ alive in absurd cc;
    },
  )

  -- one whose keeper has failed in a batch
  pub fallen : (keeper : K M V disk) → Keeps (watches_in l v) keeper → has_failed keeper ≡ true → (before : Option State) (closed : Bool) (s : State) → unwrap_or before (state_of keeper) ≡ s → (further : List Command) → (disk.honest (disk_of keeper) → (c : List ℕ) → disk.may_leave (disk_of keeper) c → MeansPrefix (watches_in l v) s further c) → IsInside keeper before closed
  fallen keeper kp down before closed s is further left = (
    kp,
    λ alive. let clash : true ≡ false = sym down ∙ alive in absurd cc,
    record {
      means = λ alive. let clash : true ≡ false = sym down ∙ alive in absurd cc;
      failed = λ _ h. (further, λ c k. subst (λ (x : State). MeansAfter x further c) (sym is) (means_after l v laid s further c (left h c k)));
    },
  )

  -- after a call that leaves the state
  module _ (counts : CountsNow disk) (old new : K M V disk) (before : Option State) (closed closed' : Bool) (inside : IsInside old before closed) where
    pub inside_after : Keeps (watches_in l v) new → state_of new ≡ state_of old → (has_failed old ≡ true → (has_failed new ≡ true) × (disk.honest (disk_of new) → disk.honest (disk_of old) × NoMore (disk.may_leave (disk_of old)) (disk.may_leave (disk_of new))))
        → (has_failed old ≡ false → disk.honest (disk_of new) → Leaves disk (disk_of old) (disk_of new) (MeansState (watches_in l v) (state_of old))) → IsInside new before closed'
    inside_after kp same down run = (
      kp,
      λ alive. ⊎_elim (λ d. let clash : true ≡ false = sym (down d).0 ∙ alive in absurd cc) (λ a. inside.1 a) (either_bool (has_failed old)),
      record {
        means = λ alive h c left. ⊎_elim
            (λ d. let clash : true ≡ false = sym (down d).0 ∙ alive in absurd cc)
            (λ a. subst (λ (b : Option State). MeansRegistry (unwrap_or b (state_of new)) c) (sym (inside.1 a)) (means_up new kp alive h c left))
            (either_bool (has_failed old));
        failed = λ fell h. ⊎_elim
            (λ d.
            let was = inside.2.failed d ((down d).1 h).0 in
            (was.0, λ c left. subst (λ (s : State). MeansAfter (unwrap_or before s) was.0 c) (sym same) (was.1 c (((down d).1 h).1 c left))))
            (λ a. (
              [],
              λ c left. after_none (unwrap_or before (state_of new)) [] c
                  (subst (λ (b : Option State). MeansRegistry (unwrap_or b (state_of new)) c) (sym (inside.1 a))
                  (subst (λ (s : State). MeansRegistry s c) (sym same) (means_registry l v laid (state_of old) c (left_after_run disk counts (disk_of old) (disk_of new) (MeansState (watches_in l v) (state_of old)) h (run a h) c left)))),
            ))
            (either_bool (has_failed old));
      },
    )
