-- A batch from its first command to its end.
use Rattle.std.proofs.Common.{◌≡◌, ◌⊎◌, ⊎_elim, inl, inr, refl, sym, ◌∙◌, ap, subst, ℕ, zero, suc, ◌+◌, ◌≤◌, ◌<◌, Bool, true, false, List, [], ◌∷◌, ◌++◌, length, take, drop, get_or, arith, append_assoc, length-append, vec_len, vec_capacity}
use Rattle.std.specs.Prelude.{Option, Some, None, if◌then◌else◌}
use Rattle.std.specs.Option.{unwrap_or}
use Rattle.std.proofs.lemmas.List.{length-take-le, take-append-drop}
use Rattle.wm_disk.specs.declared.disk.Disk as disks
use Rattle.wm_disk.specs.declared.refusal.Refusal.TheVariants.{NoMemory, Exhausted}
use Rattle.wm_journal.specs.Records.{taken}
use Rattle.wm_disk.specs.laws.Runs.{weaker, OnlyNow}
use Rattle.wm_registry.specs.Commands.{command_spelling}
use Rattle.wm_registry.specs.declared.command.Command.{Command}
use Rattle.wm_registry.specs.declared.reply.Reply.{Reply}
use Rattle.wm_registry.specs.declared.reply.Reply.TheVariants.{Refused}
use Rattle.wm_registry.specs.Registry.{after_command, is_change, reply_to}
use Rattle.wm_registry.specs.Roots.{State}
use Rattle.wm_registry.specs.MachineLaws.{watches_in}
use Rattle.wm_checkpoint.specs.Machines.{AllChange, replayed}
use Rattle.wm_checkpoint.specs.Meanings.{MeansPrefix}
use Rattle.wm_checkpoint.specs.Kept.{disk_of, state_of, has_failed, slot_number_of, room_left, Keeps}
use Rattle.wm_checkpoint.specs.laws.Replays.{replayed_append}
use Rattle.wm_store.specs.Batches.{IsBatch, IsOutOfMemory, AreAnswered, accepted_of, is_begin, after_reply}
use Rattle.wm_store.specs.UnderWay.{AreCalls, AreIdle, AreMet, IsCut, IsCutBatch, IsDone, IsMetToo, IsNew, IsPast, IsReady, IsSoFar, IsSparing, IsWhole, K}
use Rattle.wm_store.specs.declared.batch.Batch.{Batch}
use Rattle.wm_store.proofs.Batching.{calls_more, calls_none, calls_then, whole_none, whole_then, longer}
use Rattle.wm_store.proofs.Replying.{accepted_append, all_out_of_memory, answered_met, met_append, out_of_memory_append, out_of_memory_last, out_of_memory_replies}
use Rattle.wm_store.proofs.Runs.{Leaves, stood, unbegun}
use Rattle.wm_store.proofs.Stores.{stored}
use Rattle.wm_registry.specs.declared.version.Version.{Version}
use Rattle.wm_checkpoint.specs.Layout.{Sizes}
use Rattle.wm_registry.specs.Registry.{changes}
use Rattle.wm_registry.specs.Versions.{sizes_of}
use Rattle.wm_store.specs.Meant.{MeansAfter}
use Rattle.wm_store.proofs.Meant.{means_after}

-- ---- commands and replies

none_left : (cs ds : List Command) → cs ++ ds ≡ [] → cs ≡ []
none_left [] ds e = refl
none_left (c ∷ cs) ds e = absurd cc

none_right : (cs ds : List Command) → cs ++ ds ≡ [] → ds ≡ []
none_right [] ds e = e
none_right (c ∷ cs) ds e = absurd cc

one_refused : (b : Bool) (c : Command) → (if b then c ∷ [] else []) ≡ [] → b ≡ false
one_refused true c e = absurd cc
one_refused false c e = refl

one_accepted : (b : Bool) (c : Command) (l m : List Command) → b ≡ true → (if b then c ∷ l else m) ≡ [] → ⊥
one_accepted true c l m h e = absurd cc
one_accepted false c l m h e = absurd cc

-- the registry's own reply, but to a Begin
as_asked : (b : Bool) (x y : Reply) → b ≡ false → y ≡ (if b then x else y)
as_asked true x y h = absurd cc
as_asked false x y h = refl

-- the commands at a turn of the loop over them
parted : (cs : List Command) (n : ℕ) (c : Command) → n < length cs → c ≡ get_or cs n c → cs ≡ take n cs ++ (c ∷ drop (suc n) cs)
parted [] n c lt e = absurd (omega (arith, lt))
parted (d ∷ cs) zero c lt e = ap (λ (x : Command). x ∷ cs) (sym e)
parted (d ∷ cs) (suc n) c lt e = ap (λ (l : List Command). d ∷ l) (parted cs n c (omega (arith, lt)) e)

pub at_turn : (all seen : List Command) (c : Command) → seen ≡ take (length seen) all → length seen < length all → c ≡ get_or all (length seen) c → all ≡ seen ++ (c ∷ drop (suc (length seen)) all)
at_turn all seen c front lt is = parted all (length seen) c lt is ∙ ap (λ (l : List Command). l ++ (c ∷ drop (suc (length seen)) all)) (sym front)

-- the same, where the loop begins behind the first n commands
pub at_turn_behind : (n : ℕ) (all seen : List Command) (c : Command) → seen ≡ take (length seen) (drop n all) → length seen < length (drop n all) → c ≡ get_or (drop n all) (length seen) c
    → all ≡ (take n all ++ seen) ++ (c ∷ drop (suc (length seen)) (drop n all))
at_turn_behind n all seen c front lt is =
    sym (take-append-drop n all) ∙ ap (λ (l : List Command). take n all ++ l) (at_turn (drop n all) seen c front lt is)
    ∙ sym (append_assoc (take n all) seen (c ∷ drop (suc (length seen)) (drop n all)))

-- how many commands are met, and how many there are
pub len_behind : (n : ℕ) (all seen : List Command) → n ≤ length all → (length (take n all ++ seen) ≡ n + length seen) × (n + length (drop n all) ≡ length all)
len_behind n all seen le = (
  omega (arith, length-append (take n all) seen, length-take-le n all le),
  omega (arith, ap (λ (l : List Command). length l) (take-append-drop n all), length-append (take n all) (drop n all), length-take-le n all le),
)

-- The device failed in the midst of the batch: the replies are those so far, then that to a command that was to be accepted.
cut_replies : {V : Type 0} (done : Batch V) (c : Command) (rest : List Command) → List Reply
cut_replies a c rest = a.replies.items ++ (reply_to a.next c ∷ out_of_memory_replies rest)

module _ {D M V : Type 0} (disk : disks.Ghosts D) (sizes : Sizes) (version : Version) where
  -- Of a batch of commands from start on, some were met, and the device hasn't failed.
  pub record IsUnderWay (start : K M V disk) (commands done : List Command) (keeper : K M V disk) (batch : Batch V) : Type 0 where
    pub ready : IsReady disk sizes version keeper batch
    pub past : IsPast disk sizes version start done keeper batch
    pub so_far : IsSoFar version (slot_number_of keeper) (room_left keeper) (state_of start) done batch
    pub slot : IsSparing disk sizes version start done batch.replies.items keeper batch.group.items
    pub idle : accepted_of done batch.replies.items ≡ [] → (keeper ≡ start) ⊎ IsOutOfMemory batch.replies.items
    pub calls : AreCalls disk sizes version (length done) start keeper
    pub whole : IsWhole disk sizes version start keeper
    pub len : vec_len batch.replies ≡ length done
    pub replies : length commands ≤ vec_capacity batch.replies
    pub group : length commands ≤ vec_capacity batch.group

  -- the first commands are answered, and none of them is accepted
  pub idle_yet : (start : K M V disk) (commands : List Command) (batch : Batch V) → Keeps (watches_in sizes version) start → has_failed start ≡ false → (state_of start).version ≡ version → AreIdle (state_of start) commands batch.replies → IsNew (state_of start) batch.replies (length commands) batch
      → (disk.honest (disk_of start) → Leaves disk (disk_of start) (disk_of start) (MeansPrefix (watches_in sizes version) (state_of start) [])) → IsUnderWay start commands (take (vec_len batch.replies) commands) start batch
  idle_yet start commands batch kp alive is idle new standing =
      let done : List Command = take (vec_len batch.replies) commands in
      let len : length done ≡ vec_len batch.replies = length-take-le (vec_len batch.replies) commands idle.within in
      record {
        ready = record {
          kept = kp;
          whole = alive;
          version = ap (λ (s : State). s.version) new.next ∙ is;
          accepted = subst (λ (l : List Command). AllChange after_command changes (state_of start) l) (sym new.group) tt;
          next = new.next ∙ ap (λ (l : List Command). replayed after_command (state_of start) l) (sym new.group);
          size = new.size ∙ ap (λ (l : List Command). taken (command_spelling version) l) (sym new.group);
          fits = omega (arith, new.size);
          len = omega (arith, new.group_len);
        };
        past = record {
          committed = [];
          led = refl;
          len = len ∙ batch.replies.ok.0;
          accepted = idle.none ∙ sym new.group;
          first = omega (arith, new.first);
          front = ap (λ (n : ℕ). accepted_of (take n done) (take n batch.replies.items)) new.first;
          before = inr (new.before, refl);
          run = standing;
        };
        so_far = inl (new.refused, idle.met);
        slot = inl (record {
          number = refl;
          room = ap (λ (l : List Command). room_left start + taken (command_spelling version) l) (idle.none ∙ sym new.group);
        });
        idle = λ _. inl refl;
        calls = calls_more disk sizes version 0 (length done) start start (omega arith) (calls_none disk sizes version 0 start start refl);
        whole = whole_none disk sizes version start start refl kp alive;
        len = sym len;
        replies = omega (arith, idle.room);
        group = omega (arith, new.group_room);
      }

  -- one command more
  module _ (start : K M V disk) (commands done : List Command) (old new : K M V disk) (a b : Batch V) (c : Command) (u : IsUnderWay start commands done old a) where
    still_idle : (q : Reply) → b.replies.items ≡ a.replies.items ++ (q ∷ []) → (is_change q ≡ false → a.group.items ≡ [] → (new ≡ old) ⊎ (q ≡ Refused NoMemory)) → accepted_of (done ++ (c ∷ [])) b.replies.items ≡ [] → (new ≡ start) ⊎ IsOutOfMemory b.replies.items
    still_idle q is same none =
        let both : accepted_of done a.replies.items ++ accepted_of (c ∷ []) (q ∷ []) ≡ [] = sym (accepted_append done (c ∷ []) a.replies.items (q ∷ []) u.past.len) ∙ ap (λ (l : List Reply). accepted_of (done ++ (c ∷ [])) l) (sym is) ∙ none in
        let front : accepted_of done a.replies.items ≡ [] = none_left (accepted_of done a.replies.items) (accepted_of (c ∷ []) (q ∷ [])) both in
        let idle : is_change q ≡ false = one_refused (is_change q) c (none_right (accepted_of done a.replies.items) (accepted_of (c ∷ []) (q ∷ [])) both) in
        let group : a.group.items ≡ [] = none_right u.past.committed a.group.items (sym u.past.accepted ∙ front) in
        ⊎_elim
        (λ k. ⊎_elim
        (λ first. inl (k ∙ first))
        (λ short. inr (subst (λ (l : List Reply). IsOutOfMemory l) (sym is) (out_of_memory_append a.replies.items (q ∷ []) short)))
        (u.idle front))
        (λ k. inr (subst (λ (l : List Reply). IsOutOfMemory l) (sym is) (out_of_memory_last a.replies.items q k)))
        (same idle group)

    pub one_more : IsMetToo disk sizes version c old a new b → AreCalls disk sizes version 1 old new → IsWhole disk sizes version old new → IsUnderWay start commands (done ++ (c ∷ [])) new b
    one_more m calls whole =
        let one : length (done ++ (c ∷ [])) ≡ length done + 1 = length-append done (c ∷ []) in
        record {
          ready = m.ready;
          past = m.past start done u.past;
          so_far = m.so_far start done u.past u.so_far;
          slot = m.slot start done u.past u.slot;
          idle = still_idle m.reply m.replies m.idle;
          calls = subst (λ (n : ℕ). AreCalls disk sizes version n start new) (sym one) (calls_then disk sizes version (length done) 1 start old new u.calls calls);
          whole = whole_then disk sizes version start old new u.whole whole;
          len = omega (arith, m.len, u.len, one);
          replies = omega (arith, m.room.replies, u.replies);
          group = omega (arith, m.room.group, u.group);
        }

  -- Unless the slot's number is spent, all commands so far were met.
  all_met : (start : K M V disk) (commands done : List Command) (old : K M V disk) (a : Batch V) → IsUnderWay start commands done old a → (a.refused ≡ None) ⊎ (a.group.items ≡ [] → ⊥) → AreMet (state_of start) done a.replies.items
  all_met start commands done old a u why = ⊎_elim (λ h. h.1)
      (λ w. ⊎_elim (λ h. h.1)
      (λ h. ⊎_elim (λ n. absurd (let clash : Some Exhausted ≡ None = sym h.0 ∙ n in cc)) (λ some. absurd (some h.1)) why) w) u.so_far

  -- the batch's registry is that behind the commands accepted so far
  next_is : (start : K M V disk) (commands done : List Command) (old : K M V disk) (a : Batch V) → IsUnderWay start commands done old a → a.next ≡ replayed after_command (state_of start) (accepted_of done a.replies.items)
  next_is start commands done old a u =
      u.ready.next ∙ ap (λ (s : State). replayed after_command s a.group.items) u.past.led ∙ sym (replayed_append after_command (state_of start) u.past.committed a.group.items)
      ∙ ap (λ (l : List Command). replayed after_command (state_of start) l) (sym u.past.accepted)

  module _ (start : K M V disk) (commands done : List Command) (old new : K M V disk) (a : Batch V) (c : Command) (rest : List Command) (before : Option State)
      (u : IsUnderWay start commands done old a) (all : commands ≡ done ++ (c ∷ rest)) (cut : IsCut disk sizes version start done a.replies.items new before)
      (none : a.refused ≡ None) (other : is_begin c ≡ false) (accepts : is_change (reply_to a.next c) ≡ true) where
    accepted_cut : accepted_of commands (cut_replies a c rest) ≡ accepted_of done a.replies.items ++ accepted_of (c ∷ rest) (reply_to a.next c ∷ out_of_memory_replies rest)
    unfolding cut_replies
    accepted_cut = ap (λ (l : List Command). accepted_of l (a.replies.items ++ (reply_to a.next c ∷ out_of_memory_replies rest))) all
        ∙ accepted_append done (c ∷ rest) a.replies.items (reply_to a.next c ∷ out_of_memory_replies rest) u.past.len

    last_met : (s : State) → a.next ≡ s → AreMet s (c ∷ rest) (reply_to a.next c ∷ out_of_memory_replies rest)
    last_met s is = (
      inl (ap (λ (t : State). reply_to t c) is ∙ as_asked (is_begin c) _ (reply_to s c) other),
      all_out_of_memory (after_reply s c (reply_to a.next c)) rest,
    )

    pub cut_at : IsCutBatch disk sizes version start commands new before
    unfolding cut_replies
    cut_at =
        let replies : List Reply = cut_replies a c rest in
        let front : List Command = accepted_of done a.replies.items in
        let back : List Command = accepted_of (c ∷ rest) (reply_to a.next c ∷ out_of_memory_replies rest) in
        record {
          replies = replies;
          met = subst (λ (l : List Command). AreMet (state_of start) l replies) (sym all)
              (met_append (state_of start) done (c ∷ rest) a.replies.items (reply_to a.next c ∷ out_of_memory_replies rest) (all_met start commands done old a u (inl none)) (last_met (replayed after_command (state_of start) front) (next_is start commands done old a u)));
          cut = record {
            was = cut.was;
            run = λ h. subst (λ (l : List Command). Leaves disk (disk_of start) (disk_of new) (MeansPrefix (watches_in sizes version) (state_of start) l)) (sym accepted_cut)
                (weaker disk.moment disk.left_since (disk_of start) (disk_of new) (MeansPrefix (watches_in sizes version) (state_of start) front) (MeansPrefix (watches_in sizes version) (state_of start) (front ++ back)) (cut.run h) (longer sizes version (state_of start) front back));
          };
          some = λ e. one_accepted (is_change (reply_to a.next c)) c (accepted_of rest (out_of_memory_replies rest)) (accepted_of rest (out_of_memory_replies rest)) accepts (none_right front back (sym accepted_cut ∙ e));
        }

  -- It failed at the end.
  pub cut_last : (start : K M V disk) (commands done : List Command) (old new : K M V disk) (a : Batch V) (before : Option State) → IsUnderWay start commands done old a → done ≡ commands
      → IsCut disk sizes version start done a.replies.items new before → (a.group.items ≡ [] → ⊥) → IsCutBatch disk sizes version start commands new before
  cut_last start commands done old new a before u all cut some = subst
      (λ (l : List Command). IsCutBatch disk sizes version start l new before) all
      (record { replies = a.replies.items; met = all_met start commands done old a u (inr some); cut = cut; some = λ e. some (none_right u.past.committed a.group.items (sym u.past.accepted ∙ e)) })

-- ---- what a store has of it

module _ {D M V : Type 0} (disk : disks.Ghosts D) (l : Sizes) (v : Version) (laid : l ≡ sizes_of v) (start : K M V disk) (before : Option State) (closed : Bool) (none : before ≡ None) where
  pub registry_is : unwrap_or before (state_of start) ≡ state_of start
  registry_is = ap (λ (o : Option State). unwrap_or o (state_of start)) none

  -- from the store's registry on
  from_registry : (new : D) (cs : List Command) → Leaves disk (disk_of start) new (MeansPrefix (watches_in l v) (state_of start) cs) → Leaves disk (disk_of start) new (MeansAfter (unwrap_or before (state_of start)) cs)
  from_registry new cs run =
      subst (λ (s : State). Leaves disk (disk_of start) new (MeansAfter s cs)) (sym registry_is)
      (weaker disk.moment disk.left_since (disk_of start) new (MeansPrefix (watches_in l v) (state_of start) cs) (MeansAfter (state_of start) cs) run (means_after l v laid (state_of start) cs))

  -- nothing was done
  pub still_met : OnlyNow disk → Keeps (watches_in l v) start → has_failed start ≡ false → (commands : List Command) (replies : List Reply) → AreMet (unwrap_or before (state_of start)) commands replies
      → IsBatch disk (stored disk start before closed) (stored disk start before closed) commands replies
  still_met only_now kp alive commands replies met =
      record {
        answered = answered_met (unwrap_or before (state_of start)).version (slot_number_of start) (room_left start) (unwrap_or before (state_of start)) commands replies met;
        any_moment = λ h. from_registry (disk_of start) (accepted_of commands replies) (unbegun disk l v (disk_of start) (disk_of start) (state_of start) (accepted_of commands replies) (stood disk l v only_now start kp alive h));
      }

  -- no command was met
  pub none_met : OnlyNow disk → Keeps (watches_in l v) start → has_failed start ≡ false → (commands : List Command) → IsBatch disk (stored disk start before closed) (stored disk start before closed) commands (out_of_memory_replies commands)
  none_met only_now kp alive commands = still_met only_now kp alive commands (out_of_memory_replies commands) (all_out_of_memory (unwrap_or before (state_of start)) commands)

  -- the answers are those of the registry's version
  answered_by : (is : (state_of start).version ≡ v) (n room : ℕ) (commands : List Command) (replies : List Reply) → AreAnswered v n room (state_of start) commands replies
      → AreAnswered (unwrap_or before (state_of start)).version n room (unwrap_or before (state_of start)) commands replies
  answered_by is n room commands replies answered =
      subst (λ (s : State). AreAnswered s.version n room s commands replies) (sym registry_is)
      (subst (λ (u : Version). AreAnswered u n room (state_of start) commands replies) (sym is) answered)

  -- the device failed
  module _ (new : K M V disk) (commands : List Command) (replies : List Reply) (was : Option State) (cut : IsCut disk l v start commands replies new was) where
    pub cut_batch : AreMet (state_of start) commands replies → IsBatch disk (stored disk start before closed) (stored disk new was closed) commands replies
    cut_batch met = record {
      answered = subst (λ (s : State). AreAnswered s.version (slot_number_of new) (room_left new) s commands replies) (sym registry_is) (answered_met (state_of start).version (slot_number_of new) (room_left new) (state_of start) commands replies met);
      any_moment = λ h. from_registry (disk_of new) (accepted_of commands replies) (cut.run h);
    }

    pub cut_registry : unwrap_or was (state_of new) ≡ unwrap_or before (state_of start)
    cut_registry = cut.was ∙ sym registry_is

  -- all is done
  module _ (is : (state_of start).version ≡ v) (new : K M V disk) (commands : List Command) (replies : List Reply) (d : IsDone disk l v start commands new replies) where
    pub done_batch : IsBatch disk (stored disk start before closed) (stored disk new before closed) commands replies
    done_batch = record {
      answered = answered_by is (slot_number_of new) (room_left new) commands replies d.answered;
      any_moment = λ h. from_registry (disk_of new) (accepted_of commands replies) (d.run h);
    }

    pub done_registry : unwrap_or before (state_of new) ≡ replayed after_command (unwrap_or before (state_of start)) (accepted_of commands replies)
    done_registry = ap (λ (o : Option State). unwrap_or o (state_of new)) none ∙ d.led ∙ ap (λ (s : State). replayed after_command s (accepted_of commands replies)) (sym registry_is)

    abbrev IsSlot : Version → Type 0
    IsSlot u = IsOutOfMemory replies ⊎ (taken (command_spelling u) (accepted_of commands replies) ≤ room_left start → (slot_number_of new ≡ slot_number_of start) × (room_left new + taken (command_spelling u) (accepted_of commands replies) ≡ room_left start))

    pub done_slot : IsSlot (unwrap_or before (state_of start)).version
    done_slot = subst IsSlot (sym (ap (λ (s : State). s.version) registry_is ∙ is))
        (⊎_elim (λ h. inr (λ fits. (h.number, omega (arith, h.room)))) (λ w. ⊎_elim (λ h. inr (λ fits. absurd (omega (arith, h, fits)))) (λ h. inl h) w) d.slot)

    pub done_idle : accepted_of commands replies ≡ [] → (stored disk new before closed ≡ stored disk start before closed) ⊎ IsOutOfMemory replies
    done_idle e = ⊎_elim (λ k. inl (ap (λ (x : K M V disk). stored disk x before closed) k)) (λ short. inr short) (d.idle e)
