use Rattle.std.proofs.Common.{◌+◌, ◌≤◌, ◌≡◌, ◌≢◌, ◌⊎◌, ⊎_elim, inl, inr, refl, ap, sym, ◌∙◌, arith, ℕ, [], ◌∷◌, subst, Err}
use Rattle.std.specs.Prelude.{true, false}
use Rattle.std.proofs.lemmas.Result.{on_ok_weaker}
use Rattle.wm_checkpoint.specs.Kept.{disk_of, state_of, has_failed, slot_number_of, room_left}
use Rattle.wm_disk.specs.Contents.{Rose}
use Rattle.wm_journal.specs.Records.{taken}
use Rattle.wm_registry.specs.Commands.{command_spelling}
use Rattle.wm_disk.specs.declared.refusal.Refusal.{Refusal}
use Rattle.wm_disk.specs.declared.refusal.Refusal.TheVariants.{NoMemory, Exhausted}
use Rattle.wm_registry.specs.declared.command.Command.{Command}
use Rattle.wm_registry.specs.declared.command.Command.TheVariants.{Begin}
use Rattle.wm_registry.specs.MachineLaws.{watches_in}
use Rattle.wm_checkpoint.specs.Machines.{CommandsLeadTo}
use Rattle.wm_registry.specs.declared.reply.Reply.{Reply}
use Rattle.wm_registry.specs.declared.reply.Reply.TheVariants.{Refused}
use Rattle.wm_registry.specs.Registry.{reply_to, after_command, changes}
use Rattle.wm_registry.specs.Roots.{State}
use Rattle.wm_checkpoint.specs.laws.Numbering.{numbered_more}
use Rattle.wm_store.specs.Beginnings.{StandsStill}
use Rattle.wm_store.proofs.Keepers.{CommitFacts, commit_facts}
use Rattle.wm_store.proofs.Batching.{calls_then}
use Rattle.wm_store.proofs.Beginning.{stands_still, uncalled}
use Rattle.wm_store.proofs.Replies.{begin_refused, begin_accepted, begin_changed}
use Rattle.wm_store.proofs.Runs.{unbegun, then_begun, ok_told, both_ok, two_kinds, three_kinds, told_three}
use Rattle.wm_store.proofs.begin.begin_in.Goals as goal

pub returns-in_default : goal.returns-in_default
returns-in_default g c =
    let k = c.args.keeper.now in
    let same = stands_still g.D.Disk g.V.Layout.sizes g.V.Filed.version g.met.D.Disk.only_now k c.requires.kept c.requires.whole in
    record {
      calls = uncalled g.D.Disk g.V.Layout.sizes g.V.Filed.version (Err NoMemory) k c.requires.kept c.requires.whole (λ e. absurd cc);
      begun = tt;
      any_moment = λ h. unbegun g.D.Disk g.V.Layout.sizes g.V.Filed.version (disk_of k) (disk_of k) (state_of k) (Begin ∷ []) (same.any_moment h);
      unbegun = λ no. same;
      exhausted = λ e. absurd cc;
      kinds = inr (inl refl);
    }

-- the registry after the Begin, and that it changes the registry
after_begin : (s next new : State) (r : Reply) → next ≡ s → (r ≢ Refused NoMemory → r ≡ reply_to next Begin) → (r ≢ Refused NoMemory → new ≡ after_command next Begin) → ((x : Refusal) → r ≡ Refused x → ⊥) → (new ≡ after_command s Begin) × (changes s Begin ≡ true)
after_begin s next new r same reply state none =
    subst (λ (t : State). (new ≡ after_command t Begin) × (changes t Begin ≡ true)) same (state (none NoMemory), begin_accepted next r reply none)

pub returns-in-Refused : goal.returns-in-Refused
returns-in-Refused g c =
    let k = c.args.keeper.now in
    let read : c.in-Ok.next ≡ state_of k = c.in-Ok.ensures ∙ c.registry.ensures.value ∙ c.state.ensures in
    let why : (c.in-Refused.refusal ≡ NoMemory) ⊎ ((c.in-Refused.refusal ≡ Exhausted) × (reply_to (state_of k) Begin ≡ Refused Exhausted)) = subst (λ (t : State). (c.in-Refused.refusal ≡ NoMemory) ⊎ ((c.in-Refused.refusal ≡ Exhausted) × (reply_to t Begin ≡ Refused Exhausted))) read (begin_refused c.in-Ok.next c.in-Refused.refusal c.in-Refused.ensures.reply) in
    let same = stands_still g.D.Disk g.V.Layout.sizes g.V.Filed.version g.met.D.Disk.only_now k c.requires.kept c.requires.whole in
    record {
      calls = uncalled g.D.Disk g.V.Layout.sizes g.V.Filed.version (Err c.in-Refused.refusal) k c.requires.kept c.requires.whole (λ e. ⊎_elim (λ n. absurd cc) (λ x. let n = x.0 in absurd cc) why);
      begun = tt;
      any_moment = λ h. unbegun g.D.Disk g.V.Layout.sizes g.V.Filed.version (disk_of k) (disk_of k) (state_of k) (Begin ∷ []) (same.any_moment h);
      unbegun = λ no. same;
      exhausted = λ e. (⊎_elim (λ n. absurd cc) (λ x. inl x.1) why, refl);
      kinds = ⊎_elim (λ n. inr (inl n)) (λ x. inr (inr x.0)) why;
    }

pub returns-in-Err : goal.returns-in-Err
returns-in-Err g c =
    let k = c.args.keeper.now in
    let f = c.in-Err.ensures in
    record {
      calls = f.calls;
      begun = tt;
      any_moment = λ h. unbegun g.D.Disk g.V.Layout.sizes g.V.Filed.version (disk_of k) (disk_of c.find_room.new.keeper) (state_of k) (Begin ∷ []) (f.still.any_moment h);
      unbegun = λ no. f.still;
      exhausted = λ e. let x = f.exhausted e in (inr x.0, x.1);
      kinds = f.kinds;
    }

pub commit-requires : goal.commit-requires
commit-requires g c =
    let k = c.args.keeper.now in
    let new = c.find_room.new.keeper in
    let f = c.find_room.ensures in
    let found = ok_told c.find_room.result c.in_default-find_room.not-Err f.found in
    let made = after_begin (state_of k) c.in-Ok.next c.apply.new.self c.apply.result (c.in-Ok.ensures ∙ c.registry.ensures.value ∙ c.state.ensures) c.apply.ensures.reply c.apply.ensures.state c.in_default-apply.not-Refused in
    let there : (c.apply.new.self ≡ after_command (state_of new) Begin) × (changes (state_of new) Begin ≡ true) = subst (λ (t : State). (c.apply.new.self ≡ after_command t Begin) × (changes t Begin ≡ true)) (sym f.still.state) made in
    record {
      kept = f.calls.kept;
      fits = subst (λ (x : Command). taken (command_spelling g.V.Filed.version) (x ∷ []) ≤ room_left new) (sym c.new.ensures) found.room;
      leads = subst (λ (x : Command). CommandsLeadTo (watches_in g.V.Layout.sizes g.V.Filed.version) (state_of new) (x ∷ []) c.new-2.result) (sym c.new.ensures) (record { accepted = (there.1, tt); is = c.new-2.ensures ∙ there.0 });
    }

pub returns : goal.returns
returns g c =
    let D = g.D.Disk in
    let k = c.args.keeper.now in
    let mid = c.find_room.new.keeper in
    let new = c.commit.new.self in
    let f = c.find_room.ensures in
    let e = c.commit.ensures in
    let m = subst (λ (x : Command). CommitFacts g.V.Layout.sizes g.V.Filed.version mid new (x ∷ []) c.new-2.result c.commit.result) c.new.ensures
    (commit_facts g.V.Layout.sizes g.V.Filed.version mid new (c.new.result ∷ []) c.new-2.result c.commit.result e.kept e.committed e.crash e.device e.refusals) in
    let there = ok_told c.find_room.result c.in_default-find_room.not-Err f.calls.works in
    let same = ok_told c.find_room.result c.in_default-find_room.not-Err f.calls.device.no_failure in
    let found = ok_told c.find_room.result c.in_default-find_room.not-Err f.found in
    let made = after_begin (state_of k) c.in-Ok.next c.apply.new.self c.apply.result (c.in-Ok.ensures ∙ c.registry.ensures.value ∙ c.state.ensures) c.apply.ensures.reply c.apply.ensures.state c.in_default-apply.not-Refused in
    record {
      calls = record {
        kept = m.kept;
        calls = calls_then D g.V.Layout.sizes g.V.Filed.version 1 0 k mid new f.calls.calls (record {
          least = omega (arith, m.slot.1);
          most = omega (arith, m.slot.1);
          honest = m.honest;
          later = m.later;
          numbered = λ h n le all x left. numbered_more g.V.Layout.sizes (slot_number_of mid) (n + 0) x (omega (arith, le)) (m.numbered there h x left);
        });
        device = record {
          honest = λ h. f.calls.device.honest (m.honest h);
          failures_grow = omega (arith, f.calls.device.failures_grow, m.later);
          no_failure = on_ok_weaker c.commit.result (λ h. h ∙ same) m.whole;
          failed = λ e. subst (λ (n : ℕ). Rose n (D.failures (disk_of new))) same (m.failed e).0;
          failures_kept = told_three c.commit.result (D.failures (disk_of new) ≡ D.failures (disk_of k)) m.kinds
              (λ e. ap (λ y. D.failures (disk_of y)) (m.memory e) ∙ same)
              (λ e. ap (λ y. D.failures (disk_of y)) (m.down e).1 ∙ same);
        };
        works = on_ok_weaker c.commit.result (λ h. h.1) m.state;
        unfailed = told_three c.commit.result (has_failed new ≡ false) m.kinds
            (λ e. ap (λ y. has_failed y) (m.memory e) ∙ there)
            (λ e. ap (λ y. has_failed y) (m.down e).1 ∙ there);
      };
      begun = both_ok c.commit.result
          (λ (p : (state_of new ≡ c.new-2.result) × (has_failed new ≡ false)) (q : room_left new + taken (command_spelling g.V.Filed.version) (Begin ∷ []) ≡ room_left mid). record {
            state = p.0 ∙ c.new-2.ensures ∙ made.0;
            changed = begin_changed (state_of k) made.1;
            stays = λ le. (m.slot.1 ∙ ap (λ y. slot_number_of y) (f.stays le), q ∙ ap (λ y. room_left y) (f.stays le));
            moves = λ less. (m.slot.1 ∙ (found.moves less).0, q ∙ (found.moves less).1);
          })
          m.state m.room;
      any_moment = λ h. then_begun D g.V.Layout.sizes g.V.Filed.version (disk_of k) (disk_of mid) (disk_of new) (state_of k) (state_of mid) (Begin ∷ []) f.still.state (f.still.any_moment (m.honest h))
          (m.any_moment there h);
      unbegun = told_three c.commit.result (StandsStill D g.V.Layout.sizes g.V.Filed.version k new) m.kinds
          (λ e. subst (λ y. StandsStill D g.V.Layout.sizes g.V.Filed.version k y) (sym (m.memory e)) f.still)
          (λ e. subst (λ y. StandsStill D g.V.Layout.sizes g.V.Filed.version k y) (sym (m.down e).1) f.still);
      exhausted = λ e. absurd (three_kinds c.commit.result m.kinds (λ x. let up : true ≡ false = sym (m.down x).0 ∙ there in absurd cc) e);
      kinds = two_kinds c.commit.result m.kinds (λ x. let up : true ≡ false = sym (m.down x).0 ∙ there in absurd cc);
    }
