-- From what a seat knows of a command to the state at which it was met.
use Rattle.std.specs.Prelude.{◌≤◌, ◌+◌, Option, Some, None, Result, Ok, Err, IfOk, IfErr, IfSome, MatchResult, if◌then◌else◌}
use Rattle.std.proofs.Common.{◌≡◌, ◌∙◌, ◌⊎◌, inl, inr, ℕ, Bool, true, false, [], refl, sym, ap, subst, true≢false}
use Rattle.wm_disk.specs.declared.refusal.Refusal.{Refusal}
use Rattle.wm_disk.specs.declared.refusal.Refusal.TheVariants as refusals
use Rattle.wm_registry.specs.declared.command.Command.{Command}
use Rattle.wm_registry.specs.declared.command.Command.TheVariants as commands
use Rattle.wm_registry.specs.declared.reply.Reply.{Reply}
use Rattle.wm_registry.specs.declared.reply.Reply.TheVariants.{Changed, Replaced, Unchanged, Refused}
use Rattle.wm_registry.specs.declared.version.Version.TheVariants.{Two}
use Rattle.wm_registry.specs.Registry.{is_change, reply_to}
use Rattle.wm_registry.specs.Roots.{State}
use Rattle.wm_names.specs.Paths.{Path}
use Rattle.wm_store.specs.Batches.{is_begin, in_batch}
use Rattle.wm_groupcommit.specs.Books.{IsFailure, RightReply, state_at}
use Rattle.wm_groupcommit.specs.Receipts.{mark_of}
use Rattle.wm_groupcommit.specs.Seats.{IsDeclined, IsTurned, call_from, known_list}
use Rattle.wm_groupcommit.specs.declared.queued.Answer.{Answer}
use Rattle.wm_groupcommit.specs.declared.receipt.Standing.{Standing}
use Rattle.wm_groupcommit.specs.declared.receipt.Standing.TheVariants.{Stands, Unchanged as Stays}
use Rattle.wm_groupcommit.specs.declared.seat.Seat.{Seat}
use Rattle.wm_session.specs.session.Faults.{Way, Defined, Device, Memory, Spent, reply_or}
use Rattle.wm_session.specs.session.Fronts.{Commands}
use Rattle.wm_session.specs.session.Sessions.{SessionState, reply_to_command}
use Rattle.wm_front.specs.Commands.{KeepsSeat, IsCommandFoundBy, IsReceipted, IsReplied, IsReplyFollowed, IsSatOn, SeatGoesOn, calls_of}
use Rattle.wm_front.specs.Looks.{IsLookedBy}
use Rattle.wm_front.specs.MetShared.{MetShared, SharedKnown, no_root}
use Rattle.wm_front.specs.SharedLaws.{keeps_same}
use Rattle.wm_front.proofs.OneRoot.{with_registry}

nothing : State
nothing = record { version = Two; incarnation = 0; next = 0; roots = [] }

working : (r : State) (c : Command) → is_begin c ≡ false → reply_to_command (with_registry r false) c ≡ reply_to r c
working r c plain = ap (λ (b : Bool). if b then Refused refusals.BadArguments else reply_to r c) plain

failed : (r : State) (c : Command) → is_begin c ≡ false → reply_to_command (with_registry r true) c ≡ Refused refusals.StoreFailed
failed r c plain = ap (λ (b : Bool). if b then Refused refusals.BadArguments else Refused refusals.StoreFailed) plain

batched : (r : State) (c : Command) → is_begin c ≡ false → in_batch r c ≡ reply_to r c
batched r c plain = ap (λ (b : Bool). if b then Refused refusals.BadArguments else reply_to r c) plain

refusal_or : Refusal → Reply → Refusal
refusal_or e Changed = e
refusal_or e Replaced = e
refusal_or e Unchanged = e
refusal_or e (Refused x) = x

module _ (followed : ℕ → Type 0) where
  -- a command was found to be met in a way at a state
  record IsFound (old : Seat) (c : Command) (reply : Reply) (new : Seat) : Type 0 where
    pub way : Way
    pub found : SessionState
    pub by : IsCommandFoundBy followed way (is_change (reply_to_command found c)) old found new
    pub reply_is : reply ≡ reply_or way (reply_to_command found c)

  -- what the roots have followed of a reply with a receipt
  standing_followed : (old new : Seat) (b : Bool) (at : ℕ) (c : Command) → followed (mark_of (if b then Stands (at + 1) c else Stays at)) → IsReplyFollowed followed b at old new
  standing_followed old new true at c goes = goes
  standing_followed old new false at c goes = inl goes

  -- a reply with a receipt
  answered : (old new : Seat) (c : Command) (reply : Reply) (standing : Option Standing) → is_begin c ≡ false → IsReceipted old c reply standing new → IfSome standing (λ s. followed (mark_of s)) → IsFound old c reply new
  answered old new c reply standing plain h goes =
      let a = h.answered in
      let r = state_at a.base (known_list new) a.at in
      let is : reply_to_command (with_registry r false) c ≡ reply = working r c plain ∙ sym a.right in
      record {
        way = Defined;
        found = with_registry r false;
        by = inl (
          record {
            after = record { base = a.base; at = a.at; found = a.found; later = a.later; registry_is = refl };
            works = refl;
            seen = λ accepts. a.seen ∙ ap mark_of a.standing ∙ ap (λ (b : Bool). mark_of (if b then Stands (a.at + 1) c else Stays a.at)) (sym (ap is_change is) ∙ accepts);
          },
          subst (λ (b : Bool). IsReplyFollowed followed b a.at old new) (sym (ap is_change is))
              (standing_followed old new (is_change reply) a.at c (subst (λ o. IfSome o (λ s. followed (mark_of s))) (h.standing_is ∙ ap (λ (x : Standing). Some x) a.standing) goes)),
        );
        reply_is = sym is;
      }

  -- a refusal that speaks of the store, the device, the slot's number or memory
  by_failure : (old new : Seat) (c : Command) (e : Refusal) → is_begin c ≡ false → IsTurned old new c e → IsFailure e → IsFound old c (Refused e) new
  by_failure old new c e plain turned (inl is) = record {
    way = Defined;
    found = with_registry nothing true;
    by = inr (refl, (c, subst (λ x. IsTurned old new c x) is turned));
    reply_is = ap Refused is ∙ sym (failed nothing c plain);
  }
  by_failure old new c e plain turned (inr (inl is)) = record { way = Device; found = with_registry nothing false; by = (c, subst (λ x. IsTurned old new c x) is turned); reply_is = ap Refused is }
  by_failure old new c e plain turned (inr (inr (inl is))) = record { way = Spent; found = with_registry nothing false; by = (c, subst (λ x. IsTurned old new c x) is turned); reply_is = ap Refused is }
  by_failure old new c e plain turned (inr (inr (inr is))) = record { way = Memory; found = with_registry nothing false; by = (c, subst (λ x. IsTurned old new c x) is turned); reply_is = ap Refused is }

  -- a refusal of the registry
  by_registry : (old new : Seat) (c : Command) (e : Refusal) (a : Answer) (base : State) → is_begin c ≡ false → IsTurned old new c e → new.replies.base ≡ Some base → a.call ≡ call_from old c → old.seen ≤ a.at → a.reply ≡ Refused e
      → RightReply base (known_list new) a → IsFound old c (Refused e) new
  by_registry old new c e a base plain turned found call later is right =
      let r = state_at base (known_list new) a.at in
      let met : reply_to_command (with_registry r false) c ≡ Refused e =
      working r c plain ∙ sym (batched r c plain) ∙ ap (λ x. in_batch r x.command) (sym call) ∙ sym right.1 ∙ is in
      record {
        way = Defined;
        found = with_registry r false;
        by = inl (
          record {
            after = record { base = base; at = a.at; found = found; later = (later, right.0); registry_is = refl };
            works = refl;
            seen = λ accepts. absurd (true≢false (sym accepts ∙ ap is_change met));
          },
          subst (λ (b : Bool). IsReplyFollowed followed b a.at old new) (sym (ap is_change met)) (inr (e, (c, turned))),
        );
        reply_is = sym met;
      }

  declined : (old new : Seat) (c : Command) (e : Refusal) → is_begin c ≡ false → IsTurned old new c e → IsDeclined old new (call_from old c) e → IsFound old c (Refused e) new
  unfolding refusal_or
  declined old new c e plain turned d =
      elim d.declined [
        | inl (is, misfits) ↦ by_failure old new c e plain turned (inl is)
        | inr (call, later, is) ↦ elim d.taken.2 [
          | inl (x, so, failure) ↦ by_failure old new c e plain turned (subst IsFailure (ap (refusal_or e) (sym so ∙ is)) failure)
          | inr right ↦ by_registry old new c e d.answer d.base plain turned d.taken.0 call later is right
        ]
      ]

  turned_found : (old new : Seat) (c : Command) (e : Refusal) → is_begin c ≡ false → IsTurned old new c e → IsFound old c (Refused e) new
  turned_found old new c e plain turned =
      elim turned.why [
        | inl (is, same) ↦ by_failure old new c e plain turned (inr (inr (inr is)))
        | inr d ↦ declined old new c e plain turned d
      ]

  replied_found : (old new : Seat) (c : Command) (reply : Reply) (standing : Option Standing) → is_begin c ≡ false → IfSome standing (λ s. followed (mark_of s)) → IsReplied old c reply standing new → IsFound old c reply new
  replied_found old new c reply standing plain goes (inl h) = answered old new c reply standing plain h goes
  replied_found old new c reply standing plain goes (inr h) = subst (λ x. IsFound old c x new) (sym h.reply_is) (turned_found old new c h.refusal plain h.turned)

-- ---- from the session's seat

module _ (has : Path → ℕ → Type 0) (woken followed : ℕ → Type 0) where
  -- a command was met by a session
  pub record IsSubmitted (a : SharedKnown) (c : Command) (reply : Reply) (b : SharedKnown) : Type 0 where
    pub way : Way
    pub found : SessionState
    pub by : (left : SessionState) → MetShared has woken followed a Commands way (is_change (reply_to_command found c)) found left b
    pub reply_is : reply ≡ reply_or way (reply_to_command found c)

  pub submitted : (a b : SharedKnown) (c : Command) (reply : Reply) (standing : Option Standing) → is_begin c ≡ false → IfSome standing (λ s. followed (mark_of s)) → b.viewers ≡ a.viewers
      → ((b.seat ≡ a.seat) × (reply ≡ Refused refusals.NoMemory))
      ⊎ ((seat : Seat) × (new : Seat) × IsSatOn a.seat seat × (b.seat ≡ Some new) × SeatGoesOn seat new × IsReplied seat c reply standing new)
      → IsSubmitted a c reply b
  submitted a b c reply standing plain follows same (inl (stays, is)) = record { way = Memory; found = no_root; by = λ left. (same, inl (refl, subst (λ o. KeepsSeat a.seat o) (sym stays) (keeps_same a.seat), ap calls_of stays)); reply_is = is }
  submitted a b c reply standing plain follows same (inr (seat, new, sat, now, goes, replied)) =
      let f = replied_found followed seat new c reply standing plain follows replied in
      record { way = f.way; found = f.found; by = λ left. (same, inr (seat, new, sat, now, goes, f.by)); reply_is = f.reply_is }

  -- a `Begin` is refused on the registry that the seat was shown
  begin_refused : (a b : SharedKnown) (r : State) → b.viewers ≡ a.viewers
      → (count : ℕ) × IsLookedBy a.seat r count b.seat × followed count
      → IsSubmitted a commands.Begin (Refused refusals.BadArguments) b
  begin_refused a b r same (count, (seat, new, sat, now, goes, looked), follows) = record {
    way = Defined;
    found = with_registry r false;
    by = λ left. (same, inr (seat, new, sat, now, goes, inl (record { after = looked.after; works = refl; seen = λ accepts. absurd (true≢false (sym accepts)) }, inl (subst followed (sym looked.at) follows))));
    reply_is = refl;
  }

  -- memory ran out for the look
  begin_unseen : (a b : SharedKnown) (e : Refusal) → b.viewers ≡ a.viewers → KeepsSeat a.seat b.seat → calls_of b.seat ≡ calls_of a.seat → e ≡ refusals.NoMemory → IsSubmitted a commands.Begin (Refused e) b
  begin_unseen a b e same keeps unsent is = record { way = Memory; found = no_root; by = λ left. (same, inl (refl, keeps, unsent)); reply_is = ap Refused is }

  pub begin_met : (a b : SharedKnown) (c : Command) (looked : Result State Refusal) (reply : Reply) → c ≡ commands.Begin → b.viewers ≡ a.viewers → KeepsSeat a.seat b.seat → calls_of b.seat ≡ calls_of a.seat
      → IfOk looked (λ r. (count : ℕ) × IsLookedBy a.seat r count b.seat × followed count) → IfErr looked (λ e. e ≡ refusals.NoMemory)
      → MatchResult looked (λ r. reply ≡ Refused refusals.BadArguments) (λ e. reply ≡ Refused e) → IsSubmitted a c reply b
  begin_met a b c (Ok r) reply is same keeps unsent ok err met =
      subst (λ x. IsSubmitted a x reply b) (sym is) (subst (λ x. IsSubmitted a commands.Begin x b) (sym met) (begin_refused a b r same ok))
  begin_met a b c (Err e) reply is same keeps unsent ok err met =
      subst (λ x. IsSubmitted a x reply b) (sym is) (subst (λ x. IsSubmitted a commands.Begin x b) (sym met) (begin_unseen a b e same keeps unsent err))

pub is_plain : (c : Command) → (c ≡ commands.Begin → ⊥) → is_begin c ≡ false
is_plain commands.Begin other = absurd (other refl)
is_plain (commands.Watch path) other = refl
is_plain (commands.WatchDel path) other = refl
is_plain (commands.Trigger path trigger) other = refl
is_plain (commands.TriggerDel path name) other = refl
