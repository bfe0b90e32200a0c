-- A command that a batch takes: its reply, and what it leaves of the batch.
use Rattle.std.proofs.Common.{◌≡◌, ◌⊎◌, ⊎_elim, inl, inr, refl, sym, ◌∙◌, ap, subst, ℕ, ◌+◌, ◌≤◌, ◌<◌, Bool, true, false, List, [], ◌∷◌, ◌++◌, length, take, arith, append-nil, append_assoc, length-append}
use Rattle.std.specs.Prelude.{Option, Some, None, IfSome, if◌then◌else◌}
use Rattle.std.proofs.lemmas.List.{take-append-le}
use Rattle.wm_disk.specs.declared.disk.Disk as disks
use Rattle.wm_disk.specs.declared.refusal.Refusal.{Refusal}
use Rattle.wm_disk.specs.declared.refusal.Refusal.TheVariants.{BadArguments, NoMemory, Exhausted}
use Rattle.wm_journal.specs.Records.{taken}
use Rattle.wm_registry.specs.Commands.{command_spelling}
use Rattle.wm_registry.specs.declared.command.Command.{Command}
use Rattle.wm_registry.specs.declared.reply.Reply.{Reply}
use Rattle.wm_registry.specs.declared.reply.Reply.TheVariants.{Refused}
use Rattle.wm_registry.specs.Registry.{after_command, changes, is_change, reply_to}
use Rattle.wm_registry.specs.Roots.{State}
use Rattle.wm_checkpoint.specs.Machines.{AllChange, replayed}
use Rattle.wm_checkpoint.specs.Kept.{state_of, slot_number_of, room_left}
use Rattle.wm_checkpoint.specs.laws.Replays.{all_append, replayed_append}
use Rattle.wm_store.specs.Batches.{IsMet, IsOutOfMemory, IsWithoutRoom, accepted_of, in_batch, is_begin, after_reply, unless_begin}
use Rattle.wm_store.specs.UnderWay.{AreMet, AreSpent, IsAsked, IsPast, IsPushed, IsReady, IsRefused, IsSoFar, IsSpared, IsSparing, K, with_command}
use Rattle.wm_store.specs.declared.batch.Batch.{Batch}
use Rattle.wm_store.proofs.Batching.{spared_none}
use Rattle.wm_store.proofs.Replying.{accepted_append, met_more, one_met, out_of_memory_append, out_of_memory_last, spent_first, spent_more, taken_append}
use Rattle.wm_store.specs.laws.Replies.{changes_met, refusal_stays}
use Rattle.wm_registry.specs.declared.version.Version.{Version}
use Rattle.wm_checkpoint.specs.Layout.{Sizes}
use Rattle.wm_registry.specs.VersionLaws.{same_version_after}

-- ---- one reply

unless_true : (c : Command) (r : Reply) → is_begin c ≡ true → unless_begin c r ≡ Refused BadArguments
unless_true c r is = ap (λ (b : Bool). if b then Refused BadArguments else r) is

unless_false : (c : Command) (r : Reply) → is_begin c ≡ false → unless_begin c r ≡ r
unless_false c r is = ap (λ (b : Bool). if b then Refused BadArguments else r) is

not_changed : (r : Reply) (x : Refusal) → r ≡ Refused x → is_change r ≡ true → ⊥
not_changed r x e h = let clash : false ≡ true = sym (ap is_change e) ∙ h in absurd cc

-- a refusal leaves the state
refusal_leads : (s : State) (c : Command) (r : Reply) (x : Refusal) (next : State) → r ≡ Refused x → next ≡ s → next ≡ replayed after_command s (with_command [] c r)
refusal_leads s c r x next e is = is ∙ ap (λ (y : Reply). replayed after_command s (with_command [] c y)) (sym e)

-- a reply that isn't a change adds no command
none_added : (group : List Command) (c : Command) (r : Reply) → is_change r ≡ false → with_command group c r ≡ group
none_added group c r is = ap (λ (b : Bool). if b then group ++ (c ∷ []) else group) is

added_if : (b : Bool) (group : List Command) (c : Command) → (if b then group ++ (c ∷ []) else group) ≡ group ++ (if b then c ∷ [] else [])
added_if true group c = refl
added_if false group c = sym (append-nil group)

added : (group : List Command) (c : Command) (r : Reply) → with_command group c r ≡ group ++ with_command [] c r
added group c r = added_if (is_change r) group c

all_if : (b : Bool) (s : State) (c : Command) → (b ≡ true → changes s c ≡ true) → AllChange after_command changes s (if b then c ∷ [] else [])
all_if true s c h = (h refl, tt)
all_if false s c h = tt

-- the group and one command more fit, where that is accepted
fits_more : (version : Version) (b : Bool) (group : List Command) (c : Command) (size now room : ℕ) → size ≡ taken (command_spelling version) group → size ≤ room → now ≡ size + taken (command_spelling version) (if b then c ∷ [] else []) → (b ≡ true → taken (command_spelling version) (group ++ (c ∷ [])) ≤ room) → now ≤ room
fits_more version true group c size now room is le sum more = omega (arith, is, sum, more refl, taken_append version group (c ∷ []))
fits_more version false group c size now room is le sum more = omega (arith, le, sum)

-- ---- the command is answered

-- met in the registry, where the rest isn't refused for the slot's number
abbrev pub IsMetHere : {V : Type 0} → Command → Batch V → Batch V → Reply → Type 0
IsMetHere command a b reply = IsMet a.next command reply × ((a.refused ≡ None) ⊎ (a.refused ≡ Some NoMemory)) × ((b.refused ≡ None) ⊎ (b.refused ≡ Some NoMemory))

-- where the rest isn't refused for the slot's number
met_so_far : {V : Type 0} (version : Version) (n room : ℕ) (s : State) (done : List Command) (a : Batch V) → (a.refused ≡ None) ⊎ (a.refused ≡ Some NoMemory) → IsSoFar version n room s done a → AreMet s done a.replies.items
met_so_far version n room s done a which (inl h) = h.1
met_so_far version n room s done a which (inr (inl h)) = h.1
met_so_far version n room s done a (inl k) (inr (inr h)) = let clash : Some Exhausted ≡ None = sym h.0 ∙ k in absurd cc
met_so_far version n room s done a (inr k) (inr (inr h)) = let clash : Some Exhausted ≡ Some NoMemory = sym h.0 ∙ k in absurd cc

-- where it is
spent_so_far : {V : Type 0} (version : Version) (n room : ℕ) (s : State) (done : List Command) (a : Batch V) → a.refused ≡ Some Exhausted → IsSoFar version n room s done a → (a.group.items ≡ []) × AreSpent version n room s done a.replies.items
spent_so_far version n room s done a k (inl h) = let clash : Some Exhausted ≡ None = sym k ∙ h.0 in absurd cc
spent_so_far version n room s done a k (inr (inl h)) = let clash : Some Exhausted ≡ Some NoMemory = sym k ∙ h.0 in absurd cc
spent_so_far version n room s done a k (inr (inr h)) = (h.1, h.2)

module _ {D M V : Type 0} (disk : disks.Ghosts D) (sizes : Sizes) (version : Version) where
  -- refused since the slot's number is spent: as the first, or as one behind it
  abbrev pub IsSpentHere : Command → K M V disk → Batch V → K M V disk → Batch V → Reply → Type 0
  IsSpentHere command old a new b reply =
      (reply ≡ unless_begin command (Refused Exhausted)) × (b.refused ≡ Some Exhausted)
      × (((a.refused ≡ None) × (is_change (in_batch a.next command) ≡ true) × IsWithoutRoom version (slot_number_of new) (room_left new) command × (b.group.items ≡ []))
      ⊎ ((a.refused ≡ Some Exhausted) × (new ≡ old) × (b.group.items ≡ a.group.items)))

  -- No checkpoint was made for the command, or it didn't fit behind the group, or it found no memory.
  abbrev pub IsSparingHere : Command → K M V disk → Batch V → K M V disk → Batch V → Reply → Type 0
  IsSparingHere command old a new b reply =
      IsSpared disk sizes version old a.group.items new b.group.items
      ⊎ ((is_change reply ≡ true) × (room_left old < taken (command_spelling version) (a.group.items ++ (command ∷ []))))
      ⊎ (reply ≡ Refused NoMemory)

  -- From a to b, and from old to new, the command got this reply, which leads to the state `next`.
  pub record IsTaken (command : Command) (old : K M V disk) (a : Batch V) (new : K M V disk) (b : Batch V) (reply : Reply) (next : State) : Type 0 where
    pub so : IsMetHere command a b reply ⊎ IsSpentHere command old a new b reply
    pub leads : next ≡ replayed after_command a.next (with_command [] command reply)
    pub changing : is_change reply ≡ true → changes a.next command ≡ true
    pub fits : is_change reply ≡ true → taken (command_spelling version) (b.group.items ++ (command ∷ [])) ≤ room_left new
    pub idle : is_change reply ≡ false → a.group.items ≡ [] → (new ≡ old) ⊎ (reply ≡ Refused NoMemory)
    pub slot : IsSparingHere command old a new b reply

  refused_so : (command : Command) (old : K M V disk) (a : Batch V) (new : K M V disk) (b : Batch V) (reply : Reply) (x : Refusal) → (a.refused ≡ None) ⊎ (a.refused ≡ Some NoMemory) ⊎ (a.refused ≡ Some Exhausted)
      → IsRefused disk sizes version command old a new b x → reply ≡ Refused x → IsMetHere command a b reply ⊎ IsSpentHere command old a new b reply
  refused_so command old a new b reply x which (inl h) is =
      let bad : reply ≡ Refused BadArguments = is ∙ ap (λ (y : Refusal). Refused y) h.1 in
      let here : reply ≡ in_batch a.next command = bad ∙ sym (unless_true command (reply_to a.next command) h.0) in
      let same : b.refused ≡ a.refused = ap (λ (y : Batch V). y.refused) h.3 in
      ⊎_elim
      (λ k. inl (inl here, inl k, inl (same ∙ k)))
      (λ w. ⊎_elim
      (λ k. inl (inl here, inr k, inr (same ∙ k)))
      (λ k. inr (bad ∙ sym (unless_true command (Refused Exhausted) h.0), same ∙ k, inr (k, h.2, ap (λ (y : Batch V). y.group.items) h.3)))
      w)
      which
  refused_so command old a new b reply x which (inr (inl h)) is =
      inl (inr (is ∙ ap (λ (y : Refusal). Refused y) h.1 ∙ sym (unless_false command (Refused NoMemory) h.0)), h.3, inr h.2)
  refused_so command old a new b reply x which (inr (inr h)) is =
      let this : reply ≡ unless_begin command (Refused Exhausted) = is ∙ ap (λ (y : Refusal). Refused y) h.1 ∙ sym (unless_false command (Refused Exhausted) h.0) in
      ⊎_elim
      (λ k. inr (this, h.2, inl (k.0, ap is_change (unless_false command (reply_to a.next command) h.0) ∙ k.1, k.2, k.3)))
      (λ k. inr (this, h.2, inr (k.0, k.1, ap (λ v. v.items) k.2)))
      h.4

  refused_idle : (command : Command) (old : K M V disk) (a : Batch V) (new : K M V disk) (b : Batch V) (x : Refusal) → IsRefused disk sizes version command old a new b x → a.group.items ≡ [] → new ≡ old
  refused_idle command old a new b x (inl h) none = h.2
  refused_idle command old a new b x (inr (inl h)) none = h.4 none
  refused_idle command old a new b x (inr (inr h)) none = h.3 none

  refused_slot : (command : Command) (old : K M V disk) (a : Batch V) (new : K M V disk) (b : Batch V) (reply : Reply) (x : Refusal) → IsRefused disk sizes version command old a new b x → reply ≡ Refused x → IsSparingHere command old a new b reply
  refused_slot command old a new b reply x (inl h) is = inl (spared_none disk sizes version old new a.group.items b.group.items h.2 (ap (λ (y : Batch V). y.group.items) h.3))
  refused_slot command old a new b reply x (inr (inl h)) is = inr (inr (is ∙ ap (λ (y : Refusal). Refused y) h.1))
  refused_slot command old a new b reply x (inr (inr h)) is = ⊎_elim
      (λ k. inl (subst (λ (l : List Command). IsSpared disk sizes version old a.group.items new l) (sym k.3) k.4))
      (λ k. inl (spared_none disk sizes version old new a.group.items b.group.items k.1 (ap (λ v. v.items) k.2)))
      h.4

  -- a command that is refused before the registry is asked
  pub taken_refused : (command : Command) (old : K M V disk) (a : Batch V) (new : K M V disk) (b : Batch V) (reply : Reply) (next : State) (x : Refusal) → (a.refused ≡ None) ⊎ (a.refused ≡ Some NoMemory) ⊎ (a.refused ≡ Some Exhausted)
      → IsRefused disk sizes version command old a new b x → reply ≡ Refused x → next ≡ a.next → IsTaken command old a new b reply next
  taken_refused command old a new b reply next x which why is same = record {
    so = refused_so command old a new b reply x which why is;
    leads = refusal_leads a.next command reply x next is same;
    changing = λ h. absurd (not_changed reply x is h);
    fits = λ h. absurd (not_changed reply x is h);
    idle = λ _ none. inl (refused_idle command old a new b x why none);
    slot = refused_slot command old a new b reply x why is;
  }

  pub taken_asked : (command : Command) (old : K M V disk) (a : Batch V) (new : K M V disk) (b : Batch V) (reply : Reply) (next : State) → IsAsked disk sizes version command old a new b
      → ((reply ≡ Refused NoMemory) × (next ≡ a.next)) ⊎ ((reply ≡ reply_to a.next command) × (next ≡ after_command a.next command)) → IsTaken command old a new b reply next
  taken_asked command old a new b reply next o (inl h) = record {
    so = inl (inr (h.0 ∙ sym (unless_false command (Refused NoMemory) o.plain)), inl o.was_open, inl o.open_yet);
    leads = refusal_leads a.next command reply NoMemory next h.0 h.1;
    changing = λ is. absurd (not_changed reply NoMemory h.0 is);
    fits = λ is. absurd (not_changed reply NoMemory h.0 is);
    idle = λ _ none. inr h.0;
    slot = inr (inr h.0);
  }
  taken_asked command old a new b reply next o (inr h) =
      let here : IsMet a.next command reply = inl (h.0 ∙ sym (unless_false command (reply_to a.next command) o.plain)) in
      record {
        so = inl (here, inl o.was_open, inl o.open_yet);
        leads = h.1 ∙ ap (λ (y : Reply). after_reply a.next command y) (sym h.0) ∙ sym (one_met a.next command reply here);
        changing = λ is. changes_met a.next command reply here is;
        fits = λ is. o.fits (ap is_change (sym h.0) ∙ is);
        idle = λ is none. ⊎_elim (λ k. inl k.0) (λ k. let clash : false ≡ true = sym is ∙ ap is_change h.0 ∙ k.0 in absurd cc) o.spared;
        slot = ⊎_elim
            (λ k. inl (spared_none disk sizes version old new a.group.items b.group.items k.0 (ap (λ v. v.items) k.1)))
            (λ k. inr (inl (ap is_change h.0 ∙ k.0, k.1)))
            o.spared;
      }

  -- ---- what it leaves of the batch

  pub ready_taken : (command : Command) (old : K M V disk) (a : Batch V) (new : K M V disk) (b mid e : Batch V) (reply : Reply) (next : State) → IsTaken command old a new b reply next → IsReady disk sizes version new b → b.next ≡ a.next
      → mid.next ≡ next → mid.group ≡ b.group → mid.size ≡ b.size → IsPushed version command reply mid e → IsReady disk sizes version new e
  ready_taken command old a new b mid e reply next t r same mid_next mid_group mid_size p =
      let more : List Command = with_command [] command reply in
      let group : e.group.items ≡ b.group.items ++ more = p.group ∙ ap (λ v. with_command v.items command reply) mid_group ∙ added b.group.items command reply in
      let size : e.size ≡ b.size + taken (command_spelling version) more = p.size ∙ ap (λ (n : ℕ). n + taken (command_spelling version) more) mid_size in
      let met_in : b.next ≡ replayed after_command (state_of new) b.group.items = r.next in
      record {
        kept = r.kept;
        whole = r.whole;
        version = ap (λ (s : State). s.version) (p.next ∙ mid_next ∙ t.leads) ∙ same_version_after a.next more ∙ ap (λ (s : State). s.version) (sym same) ∙ r.version;
        accepted = subst (λ (l : List Command). AllChange after_command changes (state_of new) l) (sym group)
            (all_append after_command changes (state_of new) b.group.items more r.accepted
            (subst (λ (s : State). AllChange after_command changes s more) (sym same ∙ met_in) (all_if (is_change reply) a.next command t.changing)));
        next = p.next ∙ mid_next ∙ t.leads ∙ ap (λ (s : State). replayed after_command s more) (sym same ∙ met_in) ∙ sym (replayed_append after_command (state_of new) b.group.items more) ∙ ap (λ (l : List Command). replayed after_command (state_of new) l) (sym group);
        size = size ∙ ap (λ (n : ℕ). n + taken (command_spelling version) more) r.size ∙ sym (taken_append version b.group.items more) ∙ ap (λ (l : List Command). taken (command_spelling version) l) (sym group);
        fits = fits_more version (is_change reply) b.group.items command b.size e.size (room_left new) r.size r.fits size t.fits;
        len = p.group_len;
      }

  pub past_taken : (start : K M V disk) (done : List Command) (new : K M V disk) (b mid e : Batch V) (command : Command) (reply : Reply) → IsPast disk sizes version start done new b
      → mid.group ≡ b.group → mid.replies ≡ b.replies → mid.first ≡ b.first → mid.before ≡ b.before → IsPushed version command reply mid e → IsPast disk sizes version start (done ++ (command ∷ [])) new e
  past_taken start done new b mid e command reply p mid_group mid_replies mid_first mid_before q =
      let more : List Command = with_command [] command reply in
      let group : e.group.items ≡ b.group.items ++ more = q.group ∙ ap (λ v. with_command v.items command reply) mid_group ∙ added b.group.items command reply in
      let replies : e.replies.items ≡ b.replies.items ++ (reply ∷ []) = q.replies ∙ ap (λ v. v.items ++ (reply ∷ [])) mid_replies in
      let first : e.first ≡ b.first = q.first ∙ mid_first in
      let before : e.before ≡ b.before = q.before ∙ mid_before in
      record {
        committed = p.committed;
        led = p.led;
        len = length-append done (command ∷ []) ∙ ap (λ (n : ℕ). n + 1) p.len ∙ sym (length-append b.replies.items (reply ∷ [])) ∙ ap (λ (l : List Reply). length l) (sym replies);
        accepted = ap (λ (l : List Reply). accepted_of (done ++ (command ∷ [])) l) replies
            ∙ accepted_append done (command ∷ []) b.replies.items (reply ∷ []) p.len
            ∙ ap (λ (l : List Command). l ++ more) p.accepted
            ∙ append_assoc p.committed b.group.items more
            ∙ ap (λ (l : List Command). p.committed ++ l) (sym group);
        first = omega (arith, first, p.first, ap (λ (l : List Reply). length l) replies, length-append b.replies.items (reply ∷ []));
        front = ap (λ (n : ℕ). accepted_of (take n (done ++ (command ∷ []))) (take n e.replies.items)) first
            ∙ ap (λ (l : List Reply). accepted_of (take b.first (done ++ (command ∷ []))) (take b.first l)) replies
            ∙ ap (λ (l : List Command). accepted_of l (take b.first (b.replies.items ++ (reply ∷ [])))) (take-append-le b.first done (command ∷ []) (omega (arith, p.first, p.len)))
            ∙ ap (λ (l : List Reply). accepted_of (take b.first done) l) (take-append-le b.first b.replies.items (reply ∷ []) p.first)
            ∙ p.front;
        before = ⊎_elim (λ k. inl (before ∙ k)) (λ k. inr (before ∙ k.0, k.1)) p.before;
        run = p.run;
      }

  -- the commands so far lead to the batch's state
  pub so_far_leads : (start : K M V disk) (done : List Command) (old : K M V disk) (a : Batch V) → IsPast disk sizes version start done old a → IsReady disk sizes version old a → replayed after_command (state_of start) (accepted_of done a.replies.items) ≡ a.next
  so_far_leads start done old a p r =
      ap (λ (l : List Command). replayed after_command (state_of start) l) p.accepted
      ∙ replayed_append after_command (state_of start) p.committed a.group.items
      ∙ ap (λ (s : State). replayed after_command s a.group.items) (sym p.led)
      ∙ sym r.next

  module _ (start : K M V disk) (done : List Command) (command : Command) (old : K M V disk) (a : Batch V) (new : K M V disk) (b e : Batch V) (reply : Reply) where
    so_far_cases : replayed after_command (state_of start) (accepted_of done a.replies.items) ≡ a.next → e.refused ≡ b.refused → e.group.items ≡ with_command b.group.items command reply → e.replies.items ≡ a.replies.items ++ (reply ∷ [])
        → IsSoFar version (slot_number_of old) (room_left old) (state_of start) done a → IsMetHere command a b reply ⊎ IsSpentHere command old a new b reply → IsSoFar version (slot_number_of new) (room_left new) (state_of start) (done ++ (command ∷ [])) e
    so_far_cases leads refused group replies f (inl h) =
        let now : AreMet (state_of start) (done ++ (command ∷ [])) e.replies.items = subst (λ (l : List Reply). AreMet (state_of start) (done ++ (command ∷ [])) l) (sym replies)
        (met_more (state_of start) done a.replies.items command reply (met_so_far version (slot_number_of old) (room_left old) (state_of start) done a h.1 f) (subst (λ (s : State). IsMet s command reply) (sym leads) h.0)) in
        ⊎_elim (λ k. inl (refused ∙ k, now)) (λ k. inr (inl (refused ∙ k, now))) h.2
    so_far_cases leads refused group replies f (inr h) =
        let still : with_command b.group.items command reply ≡ b.group.items = none_added b.group.items command reply (ap is_change h.0 ∙ refusal_stays command Exhausted) in
        let last : e.replies.items ≡ a.replies.items ++ (unless_begin command (Refused Exhausted) ∷ []) = replies ∙ ap (λ (y : Reply). a.replies.items ++ (y ∷ [])) h.0 in
        ⊎_elim
        (λ k. inr (inr (
          refused ∙ h.1,
          group ∙ still ∙ k.3,
          subst (λ (l : List Reply). AreSpent version (slot_number_of new) (room_left new) (state_of start) (done ++ (command ∷ [])) l) (sym last)
              (spent_first version (slot_number_of new) (room_left new) (state_of start) done a.replies.items command (met_so_far version (slot_number_of old) (room_left old) (state_of start) done a (inl k.0) f) k.2 (subst (λ (s : State). is_change (in_batch s command) ≡ true) (sym leads) k.1)),
        )))
        (λ k.
        let was = spent_so_far version (slot_number_of old) (room_left old) (state_of start) done a k.0 f in
        inr (inr (
          refused ∙ h.1,
          group ∙ still ∙ k.2 ∙ was.0,
          subst (λ (l : List Reply). AreSpent version (slot_number_of new) (room_left new) (state_of start) (done ++ (command ∷ [])) l) (sym last)
              (spent_more version (slot_number_of new) (room_left new) (state_of start) done a.replies.items command (subst (λ y. AreSpent version (slot_number_of y) (room_left y) (state_of start) done a.replies.items) (sym k.1) was.1)),
        )))
        h.2

  pub so_far_taken : (start : K M V disk) (done : List Command) (command : Command) (old : K M V disk) (a : Batch V) (new : K M V disk) (b mid e : Batch V) (reply : Reply) (next : State) → IsTaken command old a new b reply next → IsPast disk sizes version start done old a → IsReady disk sizes version old a
      → b.replies ≡ a.replies → mid.group ≡ b.group → mid.replies ≡ b.replies → mid.refused ≡ b.refused → IsPushed version command reply mid e → IsSoFar version (slot_number_of old) (room_left old) (state_of start) done a → IsSoFar version (slot_number_of new) (room_left new) (state_of start) (done ++ (command ∷ [])) e
  so_far_taken start done command old a new b mid e reply next t p r same mid_group mid_replies mid_refused q f =
      so_far_cases start done command old a new b e reply (so_far_leads start done old a p r) (q.refused ∙ mid_refused) (q.group ∙ ap (λ v. with_command v.items command reply) mid_group)
      (q.replies ∙ ap (λ v. v.items ++ (reply ∷ [])) (mid_replies ∙ same)) f t.so

  -- ---- whether a checkpoint was made

  sparing : (start old new : K M V disk) (was now group left added : List Command) (rs : List Reply) (c : Command) (q : Reply) → now ≡ was ++ with_command [] c q → added ≡ left ++ with_command [] c q
      → IsSpared disk sizes version start was old group ⊎ (room_left start < taken (command_spelling version) was) ⊎ IsOutOfMemory rs
      → IsSpared disk sizes version old group new left ⊎ ((is_change q ≡ true) × (room_left old < taken (command_spelling version) (group ++ (c ∷ [])))) ⊎ (q ≡ Refused NoMemory)
      → IsSpared disk sizes version start now new added ⊎ (room_left start < taken (command_spelling version) now) ⊎ IsOutOfMemory (rs ++ (q ∷ []))
  sparing start old new was now group left added rs c q all more (inl h) (inl k) = inl (record {
    number = k.number ∙ h.number;
    room = omega (arith, h.room, k.room, ap (λ (l : List Command). taken (command_spelling version) l) all, taken_append version was (with_command [] c q), ap (λ (l : List Command). taken (command_spelling version) l) more, taken_append version left (with_command [] c q));
  })
  sparing start old new was now group left added rs c q all more (inl h) (inr (inl k)) =
      let one : with_command [] c q ≡ c ∷ [] = ap (λ (b : Bool). if b then c ∷ [] else []) k.0 in
      inr (inl (omega (arith, h.room, k.1, ap (λ (l : List Command). taken (command_spelling version) l) all, taken_append version was (with_command [] c q), ap (λ (l : List Command). taken (command_spelling version) l) one, taken_append version group (c ∷ []))))
  sparing start old new was now group left added rs c q all more (inl h) (inr (inr k)) = inr (inr (out_of_memory_last rs q k))
  sparing start old new was now group left added rs c q all more (inr (inl h)) k = inr (inl (omega (arith, h, ap (λ (l : List Command). taken (command_spelling version) l) all, taken_append version was (with_command [] c q))))
  sparing start old new was now group left added rs c q all more (inr (inr h)) k = inr (inr (out_of_memory_append rs (q ∷ []) h))

  pub slot_taken : (start : K M V disk) (done : List Command) (command : Command) (old : K M V disk) (a : Batch V) (new : K M V disk) (b mid e : Batch V) (reply : Reply) (next : State) → IsTaken command old a new b reply next → IsPast disk sizes version start done old a
      → b.replies ≡ a.replies → mid.group ≡ b.group → mid.replies ≡ b.replies → IsPushed version command reply mid e → IsSparing disk sizes version start done a.replies.items old a.group.items
      → IsSparing disk sizes version start (done ++ (command ∷ [])) e.replies.items new e.group.items
  slot_taken start done command old a new b mid e reply next t p same mid_group mid_replies q was =
      let replies : e.replies.items ≡ a.replies.items ++ (reply ∷ []) = q.replies ∙ ap (λ v. v.items ++ (reply ∷ [])) (mid_replies ∙ same) in
      let group : e.group.items ≡ b.group.items ++ with_command [] command reply = q.group ∙ ap (λ v. with_command v.items command reply) mid_group ∙ added b.group.items command reply in
      subst (λ (l : List Reply). IsSparing disk sizes version start (done ++ (command ∷ [])) l new e.group.items) (sym replies)
      (sparing start old new (accepted_of done a.replies.items) (accepted_of (done ++ (command ∷ [])) (a.replies.items ++ (reply ∷ []))) a.group.items b.group.items e.group.items a.replies.items command reply
      (accepted_append done (command ∷ []) a.replies.items (reply ∷ []) p.len) group was t.slot)

  -- a command that is answered, by why it is refused before the registry is asked
  pub taken_answered : (command : Command) (old : K M V disk) (a : Batch V) (new : K M V disk) (b : Batch V) (reply : Reply) (next : State) (o : Option Refusal) → (a.refused ≡ None) ⊎ (a.refused ≡ Some NoMemory) ⊎ (a.refused ≡ Some Exhausted) → b.next ≡ a.next
      → (o ≡ None → IsAsked disk sizes version command old a new b) → ((x : Refusal) → o ≡ Some x → IsRefused disk sizes version command old a new b x) → IfSome o (λ x. (reply ≡ Refused x) × (next ≡ b.next))
      → (o ≡ None → ((reply ≡ Refused NoMemory) × (next ≡ b.next)) ⊎ ((reply ≡ reply_to b.next command) × (next ≡ after_command b.next command))) → IsTaken command old a new b reply next
  taken_answered command old a new b reply next None which same yet why refused asked =
      taken_asked command old a new b reply next (yet refl) (⊎_elim
      (λ h. inl (h.0, h.1 ∙ same))
      (λ h. inr (h.0 ∙ ap (λ (s : State). reply_to s command) same, h.1 ∙ ap (λ (s : State). after_command s command) same))
      (asked refl))
  taken_answered command old a new b reply next (Some x) which same yet why refused asked = taken_refused command old a new b reply next x which (why x refl) refused.0 (refused.1 ∙ same)
