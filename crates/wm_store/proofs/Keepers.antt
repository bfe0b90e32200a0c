-- What the clauses of a keeper's calls say together, fact by fact.
use Rattle.std.proofs.Common.{◌≡◌, ◌⊎◌, inl, inr, ℕ, ◌+◌, ◌≤◌, true, false, List, sym, ◌∙◌}
use Rattle.std.specs.Prelude.{Result, Ok, Err, IfErr, IsErrOf, OnOk, OnErr}
use Rattle.wm_disk.specs.Calls.{Calls, EachLeft}
use Rattle.wm_disk.specs.Contents.{Rose}
use Rattle.wm_disk.specs.Counters.{max_counter}
use Rattle.wm_disk.specs.Moments.{LeavesOnly}
use Rattle.wm_disk.specs.declared.disk.Disk as disks
use Rattle.wm_disk.specs.declared.refusal.Refusal.{Refusal}
use Rattle.wm_disk.specs.declared.refusal.Refusal.TheVariants.{DeviceFailed, NoMemory, Exhausted, StoreFailed}
use Rattle.wm_journal.specs.Records.{taken}
use Rattle.wm_registry.specs.Commands.{command_spelling}
use Rattle.wm_registry.specs.declared.command.Command.{Command}
use Rattle.wm_registry.specs.declared.reply.Reply.{Reply}
use Rattle.wm_registry.specs.Roots.{State}
use Rattle.wm_registry.specs.MachineLaws.{watches_in}
use Rattle.wm_checkpoint.specs.Kept.{disk_of, state_of, slot_of, slot_number_of, has_failed, room_left, Keeps}
use Rattle.wm_checkpoint.specs.KeeperCalls.{StandsAsBefore, KeeperRefuses, CrashLeaves, HasCommitted, HasSwitched, SpentAt, LeavesState}
use Rattle.wm_checkpoint.specs.Layout.{other_slot, empty_room}
use Rattle.wm_checkpoint.specs.Meanings.{MeansState, MeansPrefix}
use Rattle.wm_checkpoint.specs.Numbers.{IsNumberedTo}
use Rattle.wm_checkpoint.specs.declared.keeper.Keeper.{Keeper}
use Rattle.wm_registry.specs.declared.version.Version.{Version}
use Rattle.wm_checkpoint.specs.Layout.{Sizes}

err_is : {T : Type 0} (e f : Refusal) → IsErrOf {T = T} (Err e) f → e ≡ f
err_is e f is = cc

not_memory : NoMemory ≡ DeviceFailed → ⊥
not_memory is = cc

not_spent : Exhausted ≡ DeviceFailed → ⊥
not_spent is = cc

not_down : StoreFailed ≡ DeviceFailed → ⊥
not_down is = cc

-- ---- a format

module _ (P : Type 0) where
  pub format_memory : (r : Result Unit Refusal) → IfErr r (λ e. (e ≡ DeviceFailed) ⊎ ((e ≡ NoMemory) × P)) → IsErrOf r NoMemory → P
  format_memory (Ok u) h is = absurd cc
  format_memory (Err e) (inl d) is = absurd (not_memory (sym (err_is e NoMemory is) ∙ d))
  format_memory (Err e) (inr m) is = m.1

  pub format_kinds : (r : Result Unit Refusal) → IfErr r (λ e. (e ≡ DeviceFailed) ⊎ ((e ≡ NoMemory) × P)) → IfErr r (λ e. (e ≡ DeviceFailed) ⊎ (e ≡ NoMemory))
  format_kinds (Ok u) h = tt
  format_kinds (Err e) (inl d) = inl d
  format_kinds (Err e) (inr m) = inr m.0

module _ {D M V : Type 0} {disk : disks.Ghosts D} (sizes : Sizes) (version : Version) (old new : Keeper D M V State Command Reply disk) where
  -- a refusal but `13`
  pub still_by : (others : Refusal → Type 0) (x : Refusal) → (x ≡ DeviceFailed → ⊥) → (r : Result Unit Refusal) → KeeperRefuses others old new r → IsErrOf r x → new ≡ old
  still_by others x differs (Ok u) k is = absurd cc
  still_by others x differs (Err e) k is = k.untouched (λ d. differs (sym (err_is e x is) ∙ d))

  pub no_memory : (others : Refusal → Type 0) (r : Result Unit Refusal) → KeeperRefuses others old new r → IsErrOf r NoMemory → new ≡ old
  no_memory others r k is = still_by others NoMemory not_memory r k is

  pub was_spent : (others : Refusal → Type 0) (r : Result Unit Refusal) → KeeperRefuses others old new r → IsErrOf r Exhausted → new ≡ old
  was_spent others r k is = still_by others Exhausted not_spent r k is

  pub was_down : (others : Refusal → Type 0) (r : Result Unit Refusal) → KeeperRefuses others old new r → IsErrOf r StoreFailed → (has_failed old ≡ true) × (new ≡ old)
  was_down others r k is = (k.down is, still_by others StoreFailed not_down r k is)

  pub has_fallen : (others : Refusal → Type 0) (r : Result Unit Refusal) → Calls disk (disk_of old) (disk_of new) r → KeeperRefuses others old new r → IsErrOf r DeviceFailed → Rose (disk.failures (disk_of old)) (disk.failures (disk_of new)) × (has_failed new ≡ true)
  has_fallen others r calls k is = (calls.failed is, k.failed is)

  abbrev AtAnyMoment : (List ℕ → Type 0) → Type 0
  AtAnyMoment P = has_failed old ≡ false → disk.honest (disk_of new) → LeavesOnly disk.moment disk.left_since (disk_of old) (disk_of new) P

  abbrev Numbered : ℕ → Type 0
  Numbered n = has_failed old ≡ false → disk.honest (disk_of new) → EachLeft disk (disk_of new) (IsNumberedTo sizes n)

  -- ---- a commit

  pub record CommitFacts (commands : List Command) (next : State) (r : Result Unit Refusal) : Type 0 where
    pub kept : Keeps (watches_in sizes version) new
    pub state : OnOk r ((state_of new ≡ next) × (has_failed new ≡ false))
    pub slot : (slot_of new ≡ slot_of old) × (slot_number_of new ≡ slot_number_of old)
    pub room : OnOk r (room_left new + taken (command_spelling version) commands ≡ room_left old)
    pub unchanged : OnErr r (state_of new ≡ state_of old)
    pub any_moment : AtAnyMoment (MeansPrefix (watches_in sizes version) (state_of old) commands)
    pub numbered : Numbered (slot_number_of old)
    pub memory : IsErrOf r NoMemory → new ≡ old
    pub down : IsErrOf r StoreFailed → (has_failed old ≡ true) × (new ≡ old)
    pub honest : disk.honest (disk_of new) → disk.honest (disk_of old)
    pub later : disk.failures (disk_of old) ≤ disk.failures (disk_of new)
    pub whole : OnOk r (disk.failures (disk_of new) ≡ disk.failures (disk_of old))
    pub failed : IsErrOf r DeviceFailed → Rose (disk.failures (disk_of old)) (disk.failures (disk_of new)) × (has_failed new ≡ true)
    pub kinds : IfErr r (λ e. (e ≡ DeviceFailed) ⊎ (e ≡ NoMemory) ⊎ (e ≡ StoreFailed))

  abbrev Crash : (List ℕ → Type 0) → ℕ → Type 0
  Crash P n = has_failed old ≡ false → disk.honest (disk_of new) → CrashLeaves sizes old new P n

  commit_kinds : (e : Refusal) → (e ≡ DeviceFailed) ⊎ ((e ≡ StoreFailed) ⊎ (e ≡ NoMemory)) → (e ≡ DeviceFailed) ⊎ ((e ≡ NoMemory) ⊎ (e ≡ StoreFailed))
  commit_kinds e (inl h) = inl h
  commit_kinds e (inr (inl h)) = inr (inr h)
  commit_kinds e (inr (inr h)) = inr (inl h)

  pub commit_facts : (commands : List Command) (next : State) (r : Result Unit Refusal) → Keeps (watches_in sizes version) new → OnOk r (HasCommitted (watches_in sizes version) commands next old new) → Crash (MeansPrefix (watches_in sizes version) (state_of old) commands) (slot_number_of old)
      → Calls disk (disk_of old) (disk_of new) r → KeeperRefuses (λ e. e ≡ NoMemory) old new r → CommitFacts commands next r
  commit_facts commands next (Ok u) kept done crash calls k = record {
    kept = kept;
    state = (done.state, done.up);
    slot = (done.slot, done.number);
    room = done.room;
    unchanged = tt;
    any_moment = λ alive h. (crash alive h).any_moment;
    numbered = λ alive h. (crash alive h).numbered;
    memory = no_memory _ (Ok u) k;
    down = was_down _ (Ok u) k;
    honest = calls.honest;
    later = calls.failures_grow;
    whole = calls.no_failure;
    failed = has_fallen _ (Ok u) calls k;
    kinds = tt;
  }
  commit_facts commands next (Err e) kept done crash calls k = record {
    kept = kept;
    state = tt;
    slot = (k.stands.slot, k.stands.number);
    room = tt;
    unchanged = k.stands.state;
    any_moment = λ alive h. (crash alive h).any_moment;
    numbered = λ alive h. (crash alive h).numbered;
    memory = no_memory _ (Err e) k;
    down = was_down _ (Err e) k;
    honest = calls.honest;
    later = calls.failures_grow;
    whole = tt;
    failed = has_fallen _ (Err e) calls k;
    kinds = commit_kinds e k.kinds;
  }

  -- ---- a checkpoint

  pub record CheckpointFacts (r : Result Unit Refusal) : Type 0 where
    pub kept : Keeps (watches_in sizes version) new
    pub state : state_of new ≡ state_of old
    pub slot : OnOk r ((slot_of new ≡ other_slot (slot_of old)) × (slot_number_of new ≡ slot_number_of old + 1) × (room_left new ≡ empty_room) × (has_failed new ≡ false))
    pub stays : OnErr r ((slot_of new ≡ slot_of old) × (slot_number_of new ≡ slot_number_of old))
    pub any_moment : AtAnyMoment (MeansState (watches_in sizes version) (state_of old))
    pub numbered : Numbered (slot_number_of old + 1)
    pub exhausted : IsErrOf r Exhausted → (max_counter ≤ slot_number_of old) × (new ≡ old)
    pub spent : has_failed old ≡ false → max_counter ≤ slot_number_of old → IsErrOf r Exhausted
    pub memory : IsErrOf r NoMemory → new ≡ old
    pub down : IsErrOf r StoreFailed → (has_failed old ≡ true) × (new ≡ old)
    pub stays_down : has_failed old ≡ true → IsErrOf r StoreFailed
    pub honest : disk.honest (disk_of new) → disk.honest (disk_of old)
    pub later : disk.failures (disk_of old) ≤ disk.failures (disk_of new)
    pub whole : OnOk r (disk.failures (disk_of new) ≡ disk.failures (disk_of old))
    pub failed : IsErrOf r DeviceFailed → Rose (disk.failures (disk_of old)) (disk.failures (disk_of new)) × (has_failed new ≡ true)
    pub kinds : IfErr r (λ e. (e ≡ DeviceFailed) ⊎ (e ≡ NoMemory) ⊎ (e ≡ Exhausted) ⊎ (e ≡ StoreFailed))

  checkpoint_kinds : (e : Refusal) → (e ≡ DeviceFailed) ⊎ ((e ≡ StoreFailed) ⊎ ((e ≡ NoMemory) ⊎ (e ≡ Exhausted))) → (e ≡ DeviceFailed) ⊎ ((e ≡ NoMemory) ⊎ ((e ≡ Exhausted) ⊎ (e ≡ StoreFailed)))
  checkpoint_kinds e (inl h) = inl h
  checkpoint_kinds e (inr (inl h)) = inr (inr (inr h))
  checkpoint_kinds e (inr (inr (inl h))) = inr (inl h)
  checkpoint_kinds e (inr (inr (inr h))) = inr (inr (inl h))

  pub checkpoint_facts : (r : Result Unit Refusal) → Keeps (watches_in sizes version) new → OnOk r (HasSwitched (watches_in sizes version) old new) → Crash (MeansState (watches_in sizes version) (state_of old)) (slot_number_of old + 1)
      → Calls disk (disk_of old) (disk_of new) r → KeeperRefuses (λ e. (e ≡ NoMemory) ⊎ (e ≡ Exhausted)) old new r → SpentAt old r → CheckpointFacts r
  checkpoint_facts (Ok u) kept done crash calls k s = record {
    kept = kept;
    state = done.state;
    slot = (done.slot, done.number, done.room, done.up);
    stays = tt;
    any_moment = λ alive h. (crash alive h).any_moment;
    numbered = λ alive h. (crash alive h).numbered;
    exhausted = λ is. (s.only is, was_spent _ (Ok u) k is);
    spent = s.always;
    memory = no_memory _ (Ok u) k;
    down = was_down _ (Ok u) k;
    stays_down = k.stays_down;
    honest = calls.honest;
    later = calls.failures_grow;
    whole = calls.no_failure;
    failed = has_fallen _ (Ok u) calls k;
    kinds = tt;
  }
  checkpoint_facts (Err e) kept done crash calls k s = record {
    kept = kept;
    state = k.stands.state;
    slot = tt;
    stays = (k.stands.slot, k.stands.number);
    any_moment = λ alive h. (crash alive h).any_moment;
    numbered = λ alive h. (crash alive h).numbered;
    exhausted = λ is. (s.only is, was_spent _ (Err e) k is);
    spent = s.always;
    memory = no_memory _ (Err e) k;
    down = was_down _ (Err e) k;
    stays_down = k.stays_down;
    honest = calls.honest;
    later = calls.failures_grow;
    whole = tt;
    failed = has_fallen _ (Err e) calls k;
    kinds = checkpoint_kinds e k.kinds;
  }

  -- ---- a sync

  pub record SyncFacts (r : Result Unit Refusal) : Type 0 where
    pub kept : Keeps (watches_in sizes version) new
    pub means : OnOk r (LeavesState (watches_in sizes version) new)
    pub ok : OnOk r (has_failed new ≡ false)
    pub state : state_of new ≡ state_of old
    pub slot : (slot_of new ≡ slot_of old) × (slot_number_of new ≡ slot_number_of old) × (room_left new ≡ room_left old)
    pub any_moment : AtAnyMoment (MeansState (watches_in sizes version) (state_of old))
    pub down : IsErrOf r StoreFailed → (has_failed old ≡ true) × (new ≡ old)
    pub stays_down : has_failed old ≡ true → IsErrOf r StoreFailed
    pub honest : disk.honest (disk_of new) → disk.honest (disk_of old)
    pub later : disk.failures (disk_of old) ≤ disk.failures (disk_of new)
    pub whole : OnOk r (disk.failures (disk_of new) ≡ disk.failures (disk_of old))
    pub failed : IsErrOf r DeviceFailed → Rose (disk.failures (disk_of old)) (disk.failures (disk_of new)) × (has_failed new ≡ true)
    pub kinds : IfErr r (λ e. (e ≡ DeviceFailed) ⊎ (e ≡ StoreFailed))

  sync_kinds : (e : Refusal) → (e ≡ DeviceFailed) ⊎ ((e ≡ StoreFailed) ⊎ ⊥) → (e ≡ DeviceFailed) ⊎ (e ≡ StoreFailed)
  sync_kinds e (inl h) = inl h
  sync_kinds e (inr (inl h)) = inr h
  sync_kinds e (inr (inr none)) = absurd none

  pub sync_facts : (r : Result Unit Refusal) → Keeps (watches_in sizes version) new → StandsAsBefore old new × (room_left new ≡ room_left old) → OnOk r ((has_failed new ≡ false) × LeavesState (watches_in sizes version) new) → AtAnyMoment (MeansState (watches_in sizes version) (state_of old))
      → Calls disk (disk_of old) (disk_of new) r → KeeperRefuses (λ e. ⊥) old new r → SyncFacts r
  sync_facts (Ok u) kept same done run calls k = record {
    kept = kept;
    means = done.1;
    ok = done.0;
    state = same.0.state;
    slot = (same.0.slot, same.0.number, same.1);
    any_moment = run;
    down = was_down _ (Ok u) k;
    stays_down = k.stays_down;
    honest = calls.honest;
    later = calls.failures_grow;
    whole = calls.no_failure;
    failed = has_fallen _ (Ok u) calls k;
    kinds = tt;
  }
  sync_facts (Err e) kept same done run calls k = record {
    kept = kept;
    means = tt;
    ok = tt;
    state = same.0.state;
    slot = (same.0.slot, same.0.number, same.1);
    any_moment = run;
    down = was_down _ (Err e) k;
    stays_down = k.stays_down;
    honest = calls.honest;
    later = calls.failures_grow;
    whole = tt;
    failed = has_fallen _ (Err e) calls k;
    kinds = sync_kinds e k.kinds;
  }
