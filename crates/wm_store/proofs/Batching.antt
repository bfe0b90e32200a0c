-- A batch under way: what its calls leave of it.
use Rattle.std.proofs.Common.{◌≡◌, ◌⊎◌, ⊎_elim, inl, inr, sym, ◌∙◌, ap, subst, ℕ, suc, ◌+◌, ◌≤◌, false, List, [], ◌∷◌, ◌++◌, length, take, arith, length-append, vec_len}
use Rattle.std.specs.Prelude.{Option, Some, None}
use Rattle.std.specs.Option.{unwrap_or}
use Rattle.std.proofs.lemmas.List.{take-append-le, take_all, append-nil}
use Rattle.wm_disk.specs.declared.disk.Disk as disks
use Rattle.wm_disk.specs.declared.refusal.Refusal.{Refusal}
use Rattle.wm_disk.specs.declared.refusal.Refusal.TheVariants.{DeviceFailed, NoMemory, Exhausted, StoreFailed}
use Rattle.wm_disk.specs.Contents.{Rose}
use Rattle.wm_journal.specs.Records.{taken}
use Rattle.wm_registry.specs.Commands.{command_spelling}
use Rattle.wm_disk.specs.Moments.{then_runs}
use Rattle.wm_disk.specs.laws.Runs.{weaker}
use Rattle.wm_registry.specs.declared.command.Command.{Command}
use Rattle.wm_registry.specs.declared.reply.Reply.{Reply}
use Rattle.wm_registry.specs.Registry.{after_command}
use Rattle.wm_registry.specs.Roots.{State}
use Rattle.wm_registry.specs.MachineLaws.{watches_in}
use Rattle.wm_checkpoint.specs.laws.Numbering.{numbered_more}
use Rattle.wm_checkpoint.specs.Machines.{AllChange, replayed}
use Rattle.wm_checkpoint.specs.Meanings.{MeansState, MeansPrefix}
use Rattle.wm_checkpoint.specs.Kept.{disk_of, state_of, has_failed, slot_number_of, room_left, Keeps}
use Rattle.wm_checkpoint.specs.laws.Replays.{replayed_append}
use Rattle.wm_store.specs.Batches.{accepted_of}
use Rattle.wm_store.specs.UnderWay.{K, AreCalls, IsPast, IsCut, WentDown, IsReady, IsRoomMade, IsSpared, IsWhole, KeepsRoom}
use Rattle.wm_store.specs.declared.batch.Batch.{Batch}
use Rattle.wm_store.proofs.Runs.{Leaves}
use Rattle.wm_registry.specs.declared.version.Version.{Version}
use Rattle.wm_checkpoint.specs.Layout.{Sizes}
use Rattle.wm_registry.specs.Registry.{changes}

-- ---- prefixes of lists of commands

take_behind : (cs ds : List Command) (n : ℕ) → take (length cs + n) (cs ++ ds) ≡ cs ++ take n ds
take_behind [] ds n = let e : 0 + n ≡ n = omega arith in ap (λ (k : ℕ). take k ds) e
take_behind (c ∷ cs) ds n =
    let e : length (c ∷ cs) + n ≡ suc (length cs + n) = omega arith in
    ap (λ (k : ℕ). take k (c ∷ (cs ++ ds))) e ∙ ap (λ (l : List Command). c ∷ l) (take_behind cs ds n)

-- after some commands, a prefix of those behind
pub behind : (sizes : Sizes) (version : Version) (s : State) (cs ds : List Command) (c : List ℕ) → MeansPrefix (watches_in sizes version) (replayed after_command s cs) ds c → MeansPrefix (watches_in sizes version) s (cs ++ ds) c
behind sizes version s cs ds c b = record {
  count = length cs + b.count;
  within = omega (arith, b.within, length-append cs ds);
  means = subst (λ (t : State). MeansState (watches_in sizes version) t c) (sym (replayed_append after_command s cs (take b.count ds)) ∙ ap (λ (l : List Command). replayed after_command s l) (sym (take_behind cs ds b.count))) b.means;
}

pub longer : (sizes : Sizes) (version : Version) (s : State) (cs ds : List Command) (c : List ℕ) → MeansPrefix (watches_in sizes version) s cs c → MeansPrefix (watches_in sizes version) s (cs ++ ds) c
longer sizes version s cs ds c b = record {
  count = b.count;
  within = omega (arith, b.within, length-append cs ds);
  means = subst (λ (l : List Command). MeansState (watches_in sizes version) (replayed after_command s l) c) (sym (take-append-le b.count cs ds b.within)) b.means;
}

pub all_done : (sizes : Sizes) (version : Version) (s : State) (cs : List Command) (c : List ℕ) → MeansState (watches_in sizes version) (replayed after_command s cs) c → MeansPrefix (watches_in sizes version) s cs c
all_done sizes version s cs c m = record {
  count = length cs;
  within = omega arith;
  means = subst (λ (l : List Command). MeansState (watches_in sizes version) (replayed after_command s l) c) (sym (take_all (length cs) cs (omega arith))) m;
}

module _ {D : Type 0} (disk : disks.Ghosts D) (sizes : Sizes) (version : Version) where
  -- a run of more commands
  pub run_more : (old mid new : D) (s t : State) (cs ds : List Command) → t ≡ replayed after_command s cs → Leaves disk old mid (MeansPrefix (watches_in sizes version) s cs) → Leaves disk mid new (MeansPrefix (watches_in sizes version) t ds) → Leaves disk old new (MeansPrefix (watches_in sizes version) s (cs ++ ds))
  run_more old mid new s t cs ds is first second =
      then_runs disk.moment disk.left_since old mid new (MeansPrefix (watches_in sizes version) s (cs ++ ds)) (MeansPrefix (watches_in sizes version) t ds)
      (weaker disk.moment disk.left_since old mid (MeansPrefix (watches_in sizes version) s cs) (MeansPrefix (watches_in sizes version) s (cs ++ ds)) first (longer sizes version s cs ds)) second
      (λ c b. behind sizes version s cs ds c (subst (λ (x : State). MeansPrefix (watches_in sizes version) x ds c) is b))

  -- one that leaves the state
  pub run_still : (old mid new : D) (s t : State) (cs : List Command) → t ≡ replayed after_command s cs → Leaves disk old mid (MeansPrefix (watches_in sizes version) s cs) → Leaves disk mid new (MeansState (watches_in sizes version) t) → Leaves disk old new (MeansPrefix (watches_in sizes version) s cs)
  run_still old mid new s t cs is first second =
      then_runs disk.moment disk.left_since old mid new (MeansPrefix (watches_in sizes version) s cs) (MeansState (watches_in sizes version) t) first second
      (λ c m. all_done sizes version s cs c (subst (λ (x : State). MeansState (watches_in sizes version) x c) is m))

module _ {D M V : Type 0} (disk : disks.Ghosts D) (sizes : Sizes) (version : Version) where
  -- nothing but why the rest is refused, and what stood before, differs
  pub past_same : (start : K M V disk) (done : List Command) (old new : K M V disk) (a b : Batch V) → IsPast disk sizes version start done old a → new ≡ old → b.group ≡ a.group → b.replies ≡ a.replies → b.first ≡ a.first
      → ((b.before ≡ a.before) ⊎ (b.before ≡ Some (state_of start))) → IsPast disk sizes version start done new b
  past_same start done old new a b p keeper group replies first before = record {
    committed = p.committed;
    led = ap (λ k. state_of k) keeper ∙ p.led;
    len = p.len ∙ ap (λ v. length v.items) (sym replies);
    accepted = ap (λ v. accepted_of done v.items) replies ∙ p.accepted ∙ ap (λ v. p.committed ++ v.items) (sym group);
    first = subst (λ n. n ≤ length b.replies.items) (sym first) (subst (λ v. a.first ≤ length v.items) (sym replies) p.first);
    front = ap (λ n. accepted_of (take n done) (take n b.replies.items)) first ∙ ap (λ v. accepted_of (take a.first done) (take a.first v.items)) replies ∙ p.front;
    before = ⊎_elim (λ e. ⊎_elim (λ x. inl (e ∙ x)) (λ x. inr (e ∙ x.0, x.1)) p.before) (λ e. inl e) before;
    run = λ h. subst (λ k. Leaves disk (disk_of start) (disk_of k) (MeansPrefix (watches_in sizes version) (state_of start) p.committed)) (sym keeper) (p.run (subst (λ k. disk.honest (disk_of k)) keeper h));
  }

  -- after a checkpoint
  pub past_switched : (start : K M V disk) (done : List Command) (old new : K M V disk) (b : Batch V) → IsPast disk sizes version start done old b → state_of new ≡ state_of old → (disk.honest (disk_of new) → disk.honest (disk_of old))
      → (disk.honest (disk_of new) → Leaves disk (disk_of old) (disk_of new) (MeansState (watches_in sizes version) (state_of old))) → IsPast disk sizes version start done new b
  past_switched start done old new b p same honest run = record {
    committed = p.committed;
    led = same ∙ p.led;
    len = p.len;
    accepted = p.accepted;
    first = p.first;
    front = p.front;
    before = p.before;
    run = λ h. run_still disk sizes version (disk_of start) (disk_of old) (disk_of new) (state_of start) (state_of old) p.committed p.led (p.run (honest h)) (run h);
  }

  -- after the group was committed
  pub past_committed : (start : K M V disk) (done : List Command) (old new : K M V disk) (a b : Batch V) → IsPast disk sizes version start done old a → state_of new ≡ replayed after_command (state_of old) a.group.items → (disk.honest (disk_of new) → disk.honest (disk_of old))
      → (disk.honest (disk_of new) → Leaves disk (disk_of old) (disk_of new) (MeansPrefix (watches_in sizes version) (state_of old) a.group.items)) → b.group.items ≡ [] → b.replies ≡ a.replies → b.first ≡ length a.replies.items → b.before ≡ Some (state_of start) → IsPast disk sizes version start done new b
  past_committed start done old new a b p made honest run none replies first before = record {
    committed = p.committed ++ a.group.items;
    led = made ∙ ap (λ (s : State). replayed after_command s a.group.items) p.led ∙ sym (replayed_append after_command (state_of start) p.committed a.group.items);
    len = p.len ∙ ap (λ v. length v.items) (sym replies);
    accepted = ap (λ v. accepted_of done v.items) replies ∙ p.accepted ∙ sym (append-nil (p.committed ++ a.group.items)) ∙ ap (λ (l : List Command). (p.committed ++ a.group.items) ++ l) (sym none);
    first = subst (λ n. n ≤ length b.replies.items) (sym first) (subst (λ v. length a.replies.items ≤ length v.items) (sym replies) (omega arith));
    front =
        ap (λ n. accepted_of (take n done) (take n b.replies.items)) first
        ∙ ap (λ v. accepted_of (take (length a.replies.items) done) (take (length a.replies.items) v.items)) replies
        ∙ ap (λ (l : List Reply). accepted_of (take (length a.replies.items) done) l) (take_all (length a.replies.items) a.replies.items (omega arith))
        ∙ ap (λ n. accepted_of (take n done) a.replies.items) (sym p.len)
        ∙ ap (λ (l : List Command). accepted_of l a.replies.items) (take_all (length done) done (omega arith))
        ∙ p.accepted;
    before = inl before;
    run = λ h. run_more disk sizes version (disk_of start) (disk_of old) (disk_of new) (state_of start) (state_of old) p.committed a.group.items p.led (p.run (honest h)) (run h);
  }

  -- what stood before the batch, once it is kept
  pub remembered : (start : K M V disk) (done : List Command) (old : K M V disk) (a : Batch V) (now : Option State) → IsPast disk sizes version start done old a → ((a.before ≡ None) × (now ≡ Some (state_of old))) ⊎ ((s : State) × (a.before ≡ Some s) × (now ≡ Some s)) → now ≡ Some (state_of start)
  remembered start done old a now p (inl h) = ⊎_elim
      (λ x. absurd (let clash : Some (state_of start) ≡ None = sym x ∙ h.0 in cc))
      (λ x. h.1 ∙ ap (λ (s : State). Some s) (p.led ∙ ap (λ (l : List Command). replayed after_command (state_of start) l) x.1))
      p.before
  remembered start done old a now p (inr h) = ⊎_elim
      (λ x. h.2 ∙ sym h.1 ∙ x)
      (λ x. absurd (let clash : Some h.0 ≡ None = sym h.1 ∙ x.0 in cc))
      p.before

  pub was_before : (start : K M V disk) (done : List Command) (old new : K M V disk) (before : Option State) (committed : List Command) → state_of new ≡ replayed after_command (state_of start) committed → (before ≡ Some (state_of start)) ⊎ ((before ≡ None) × (committed ≡ [])) → unwrap_or before (state_of new) ≡ state_of start
  was_before start done old new before committed led (inl h) = ap (λ (o : Option State). unwrap_or o (state_of new)) h
  was_before start done old new before committed led (inr h) = ap (λ (o : Option State). unwrap_or o (state_of new)) h.0 ∙ led ∙ ap (λ (l : List Command). replayed after_command (state_of start) l) h.1

  -- the device failed in a checkpoint
  pub cut_switching : (start : K M V disk) (done : List Command) (old new : K M V disk) (b : Batch V) → IsPast disk sizes version start done old b → b.group.items ≡ [] → state_of new ≡ state_of old → (disk.honest (disk_of new) → disk.honest (disk_of old))
      → (disk.honest (disk_of new) → Leaves disk (disk_of old) (disk_of new) (MeansState (watches_in sizes version) (state_of old))) → IsCut disk sizes version start done b.replies.items new b.before
  cut_switching start done old new b p none same honest run = record {
    was = was_before start done old new b.before p.committed (same ∙ p.led) p.before;
    run = λ h. subst (λ (l : List Command). Leaves disk (disk_of start) (disk_of new) (MeansPrefix (watches_in sizes version) (state_of start) l)) (sym (append-nil p.committed) ∙ ap (λ (l : List Command). p.committed ++ l) (sym none) ∙ sym p.accepted)
        (run_still disk sizes version (disk_of start) (disk_of old) (disk_of new) (state_of start) (state_of old) p.committed p.led (p.run (honest h)) (run h));
  }

  -- the device failed in a commit
  pub cut_committing : (start : K M V disk) (done : List Command) (old new : K M V disk) (b : Batch V) (before : Option State) → IsPast disk sizes version start done old b → (unwrap_or before (state_of new) ≡ state_of start) → (disk.honest (disk_of new) → disk.honest (disk_of old))
      → (disk.honest (disk_of new) → Leaves disk (disk_of old) (disk_of new) (MeansPrefix (watches_in sizes version) (state_of old) b.group.items)) → IsCut disk sizes version start done b.replies.items new before
  cut_committing start done old new b before p was honest run = record {
    was = was;
    run = λ h. subst (λ (l : List Command). Leaves disk (disk_of start) (disk_of new) (MeansPrefix (watches_in sizes version) (state_of start) l)) (sym p.accepted)
        (run_more disk sizes version (disk_of start) (disk_of old) (disk_of new) (state_of start) (state_of old) p.committed b.group.items p.led (p.run (honest h)) (run h));
  }

  -- ---- what the calls leave of the keeper and the group

  pub calls_none : (n : ℕ) (old new : K M V disk) → new ≡ old → AreCalls disk sizes version n old new
  calls_none n old new same = record {
    least = subst (λ k. slot_number_of old ≤ slot_number_of k) (sym same) (omega arith);
    most = subst (λ k. slot_number_of k ≤ slot_number_of old + n) (sym same) (omega arith);
    honest = λ h. subst (λ k. disk.honest (disk_of k)) same h;
    later = subst (λ k. disk.failures (disk_of old) ≤ disk.failures (disk_of k)) (sym same) (omega arith);
    numbered = λ h m le all x left. numbered_more sizes m (m + n) x (omega arith) (all x (subst (λ k. disk.may_leave (disk_of k) x) same left));
  }

  pub whole_none : (old new : K M V disk) → new ≡ old → Keeps (watches_in sizes version) old → has_failed old ≡ false → IsWhole disk sizes version old new
  whole_none old new same kp alive = record {
    kept = subst (λ k. Keeps (watches_in sizes version) k) (sym same) kp;
    up = ap (λ k. has_failed k) same ∙ alive;
    count = ap (λ k. disk.failures (disk_of k)) same;
  }

  pub whole_then : (old mid new : K M V disk) → IsWhole disk sizes version old mid → IsWhole disk sizes version mid new → IsWhole disk sizes version old new
  whole_then old mid new a b = record { kept = b.kept; up = b.up; count = b.count ∙ a.count }

  pub down_then : (old mid new : K M V disk) → IsWhole disk sizes version old mid → WentDown disk sizes version mid new → WentDown disk sizes version old new
  down_then old mid new a b = record { kept = b.kept; down = b.down; rose = subst (λ n. Rose n (disk.failures (disk_of new))) a.count b.rose }

  pub calls_then : (m n : ℕ) (old mid new : K M V disk) → AreCalls disk sizes version m old mid → AreCalls disk sizes version n mid new → AreCalls disk sizes version (m + n) old new
  calls_then m n old mid new a b = record {
    least = omega (arith, a.least, b.least);
    most = omega (arith, a.most, b.most);
    honest = λ h. a.honest (b.honest h);
    later = omega (arith, a.later, b.later);
    numbered = λ h k le all x left. numbered_more sizes ((k + m) + n) (k + (m + n)) x (omega arith) (b.numbered h (k + m) (omega (arith, a.most, le)) (a.numbered (b.honest h) k le all) x left);
  }

  pub calls_more : (m n : ℕ) (old new : K M V disk) → m ≤ n → AreCalls disk sizes version m old new → AreCalls disk sizes version n old new
  calls_more m n old new le a = record {
    least = a.least;
    most = omega (arith, a.most, le);
    honest = a.honest;
    later = a.later;
    numbered = λ h k low all x left. numbered_more sizes (k + m) (k + n) x (omega (arith, le)) (a.numbered h k low all x left);
  }

  -- the same group on a keeper that is equal, or has the same state and room
  pub ready_on : (old new : K M V disk) (a b : Batch V) → IsReady disk sizes version old a → Keeps (watches_in sizes version) new → has_failed new ≡ false → state_of new ≡ state_of old → a.size ≤ room_left new → b.next ≡ a.next → b.group ≡ a.group → b.size ≡ a.size → b.replies ≡ a.replies → IsReady disk sizes version new b
  ready_on old new a b r kp alive state room next group size replies = record {
    kept = kp;
    whole = alive;
    version = ap (λ (s : State). s.version) next ∙ r.version;
    accepted = subst (λ (s : State). AllChange after_command changes s b.group.items) (sym state) (subst (λ v. AllChange after_command changes (state_of old) v.items) (sym group) r.accepted);
    next = next ∙ r.next ∙ ap (λ (s : State). replayed after_command s a.group.items) (sym state) ∙ ap (λ v. replayed after_command (state_of new) v.items) (sym group);
    size = size ∙ r.size ∙ ap (λ v. taken (command_spelling version) v.items) (sym group);
    fits = omega (arith, size, room);
    len = omega (arith, r.len, ap (λ v. vec_len v) group, ap (λ v. vec_len v) replies);
  }

  pub ready_same : (old new : K M V disk) (a b : Batch V) → IsReady disk sizes version old a → new ≡ old → b.next ≡ a.next → b.group ≡ a.group → b.size ≡ a.size → b.replies ≡ a.replies → IsReady disk sizes version new b
  ready_same old new a b r same next group size replies =
      ready_on old new a b r (subst (λ k. Keeps (watches_in sizes version) k) (sym same) r.kept) (ap (λ k. has_failed k) same ∙ r.whole) (ap (λ k. state_of k) same) (subst (λ k. a.size ≤ room_left k) (sym same) r.fits) next group size replies

  pub empty_size : (k : K M V disk) (b : Batch V) → IsReady disk sizes version k b → b.group.items ≡ [] → b.size ≡ 0
  empty_size k b r none = r.size ∙ ap (λ (l : List Command). taken (command_spelling version) l) none

-- which refusals of a keeper mean that the device failed
pub is_device : (x : Refusal) → (x ≡ DeviceFailed) ⊎ (x ≡ NoMemory) ⊎ (x ≡ Exhausted) ⊎ (x ≡ StoreFailed) → (x ≡ NoMemory → ⊥) → (x ≡ Exhausted → ⊥) → (x ≡ StoreFailed → ⊥) → x ≡ DeviceFailed
is_device x (inl h) n e s = h
is_device x (inr (inl h)) n e s = absurd (n h)
is_device x (inr (inr (inl h))) n e s = absurd (e h)
is_device x (inr (inr (inr h))) n e s = absurd (s h)

pub is_device_two : (x : Refusal) → (x ≡ DeviceFailed) ⊎ (x ≡ NoMemory) ⊎ (x ≡ StoreFailed) → (x ≡ NoMemory → ⊥) → (x ≡ StoreFailed → ⊥) → x ≡ DeviceFailed
is_device_two x (inl h) n s = h
is_device_two x (inr (inl h)) n s = absurd (n h)
is_device_two x (inr (inr h)) n s = absurd (s h)

pub keeps_room : {V : Type 0} (a b e : Batch V) → KeepsRoom a b → KeepsRoom b e → KeepsRoom a e
keeps_room a b e x y = record { replies = omega (arith, x.replies, y.replies); group = omega (arith, x.group, y.group) }

-- no call of the keeper
pub spared_none : {D M V : Type 0} (disk : disks.Ghosts D) (sizes : Sizes) (version : Version) (old new : K M V disk) (commands left : List Command) → new ≡ old → left ≡ commands → IsSpared disk sizes version old commands new left
spared_none disk sizes version old new commands left same all = record {
  number = ap (λ k. slot_number_of k) same;
  room = ap (λ k. room_left k + taken (command_spelling version) commands) same ∙ ap (λ (l : List Command). room_left old + taken (command_spelling version) l) (sym all);
}

-- room that is made behind a group: from a batch whose group wasn't empty
pub made_later : {D M V : Type 0} (disk : disks.Ghosts D) (sizes : Sizes) (version : Version) (old mid new : K M V disk) (a b e : Batch V) → IsSpared disk sizes version old a.group.items mid [] → b.group.items ≡ [] → IsRoomMade disk sizes version mid b new e → (a.group.items ≡ [] → ⊥) → IsRoomMade disk sizes version old a new e
made_later disk sizes version old mid new a b e first none (inl h) some = inl h
made_later disk sizes version old mid new a b e first none (inr (inl h)) some = inr (inl (h.0, λ none. absurd (some none)))
made_later disk sizes version old mid new a b e first none (inr (inr h)) some =
    inr (inr (h.0, h.1, h.2, (λ none. absurd (some none)), subst (λ k. IsSpared disk sizes version old a.group.items k []) (sym (h.3 none)) first))
