-- The end of a batch: its last group is committed, or refused when out of memory.
use Rattle.std.proofs.Common.{◌≡◌, ◌⊎◌, ⊎_elim, inl, inr, refl, sym, ◌∙◌, ap, subst, ℕ, true, false, List, [], ◌∷◌, ◌++◌, length, arith, append-nil, length-append, vec_len, ◌==◌, eqb-true}
use Rattle.wm_disk.specs.declared.disk.Disk as disks
use Rattle.wm_registry.specs.declared.command.Command.{Command}
use Rattle.wm_registry.specs.declared.reply.Reply.{Reply}
use Rattle.wm_registry.specs.Registry.{after_command}
use Rattle.wm_registry.specs.Roots.{State}
use Rattle.wm_registry.specs.MachineLaws.{watches_in}
use Rattle.wm_checkpoint.specs.Machines.{replayed}
use Rattle.wm_checkpoint.specs.Meanings.{MeansPrefix}
use Rattle.wm_checkpoint.specs.Kept.{disk_of, state_of, slot_number_of, room_left}
use Rattle.wm_checkpoint.specs.laws.Replays.{replayed_append}
use Rattle.wm_store.specs.Batches.{IsOutOfMemory, AreAnswered, accepted_of}
use Rattle.wm_store.specs.UnderWay.{AreMet, IsCut, IsDone, IsPast, IsSoFar, IsSpared, IsSparing, K}
use Rattle.wm_store.specs.declared.batch.Batch.{Batch}
use Rattle.wm_store.proofs.Batching.{cut_committing, run_more, was_before}
use Rattle.wm_store.proofs.Replying.{accepted_behind, answered_met, answered_spent, met_behind, out_of_memory_behind, out_of_memory_or_all}
use Rattle.wm_store.proofs.Runs.{Leaves}
use Rattle.wm_registry.specs.declared.version.Version.{Version}
use Rattle.wm_checkpoint.specs.Layout.{Sizes}

no_items : (xs : List Command) → length xs ≡ 0 → xs ≡ []
no_items [] h = refl
no_items (x ∷ xs) h = absurd (omega (arith, h))

-- whether the group is empty
pub no_group : {V : Type 0} (b : Batch V) → true ≡ (vec_len b.group == 0) → b.group.items ≡ []
no_group b h = let none : vec_len b.group ≡ 0 = eqb-true (vec_len b.group) 0 (sym h) in no_items b.group.items (sym b.group.ok.0 ∙ none)

pub some_group : {V : Type 0} (b : Batch V) → false ≡ (vec_len b.group == 0) → b.group.items ≡ [] → ⊥
some_group b h none = let clash : false ≡ true = h ∙ ap (λ (n : ℕ). n == 0) (b.group.ok.0 ∙ ap (λ (l : List Command). length l) none) in absurd cc

-- Commands were accepted, and no others behind them.
none_behind : (cs ds : List Command) → cs ++ ds ≡ cs → ds ≡ []
none_behind cs [] h = refl
none_behind cs (d ∷ ds) h = absurd (omega (arith, ap (λ (l : List Command). length l) h, length-append cs (d ∷ ds)))

none_last : (cs ds : List Command) → cs ++ ds ≡ [] → ds ≡ []
none_last cs [] h = refl
none_last cs (d ∷ ds) h = absurd (omega (arith, ap (λ (l : List Command). length l) h, length-append cs (d ∷ ds)))

-- the replies so far are answers
answered_so_far : {V : Type 0} (version : Version) (n room : ℕ) (s : State) (commands : List Command) (b : Batch V) → IsSoFar version n room s commands b → AreAnswered version n room s commands b.replies.items
answered_so_far version n room s commands b (inl h) = answered_met version n room s commands b.replies.items h.1
answered_so_far version n room s commands b (inr (inl h)) = answered_met version n room s commands b.replies.items h.1
answered_so_far version n room s commands b (inr (inr h)) = answered_spent version n room s commands b.replies.items h.2

-- where a group is left, no command met a spent number
met_with_group : {V : Type 0} (version : Version) (n room : ℕ) (s : State) (commands : List Command) (b : Batch V) → (b.group.items ≡ [] → ⊥) → IsSoFar version n room s commands b → AreMet s commands b.replies.items
met_with_group version n room s commands b some (inl h) = h.1
met_with_group version n room s commands b some (inr (inl h)) = h.1
met_with_group version n room s commands b some (inr (inr h)) = absurd (some h.1)

module _ {D M V : Type 0} (disk : disks.Ghosts D) (sizes : Sizes) (version : Version) where
  -- no group is left
  pub done_empty : (start : K M V disk) (commands : List Command) (old : K M V disk) (b : Batch V) → b.group.items ≡ [] → IsPast disk sizes version start commands old b → IsSoFar version (slot_number_of old) (room_left old) (state_of start) commands b
      → (accepted_of commands b.replies.items ≡ [] → (old ≡ start) ⊎ IsOutOfMemory b.replies.items) → IsSparing disk sizes version start commands b.replies.items old b.group.items → IsDone disk sizes version start commands old b.replies.items
  done_empty start commands old b none p f idle slot =
      let all : accepted_of commands b.replies.items ≡ p.committed = p.accepted ∙ ap (λ (l : List Command). p.committed ++ l) none ∙ append-nil p.committed in
      record {
        answered = answered_so_far version (slot_number_of old) (room_left old) (state_of start) commands b f;
        led = p.led ∙ ap (λ (l : List Command). replayed after_command (state_of start) l) (sym all);
        run = λ h. subst (λ (l : List Command). Leaves disk (disk_of start) (disk_of old) (MeansPrefix (watches_in sizes version) (state_of start) l)) (sym all) (p.run h);
        idle = idle;
        slot = subst (λ (l : List Command). IsSparing disk sizes version start commands b.replies.items old l) none slot;
      }

  -- the last group was committed
  pub done_committed : (start : K M V disk) (commands : List Command) (old new : K M V disk) (b : Batch V) → (b.group.items ≡ [] → ⊥) → IsPast disk sizes version start commands old b → IsSoFar version (slot_number_of old) (room_left old) (state_of start) commands b
      → IsSparing disk sizes version start commands b.replies.items old b.group.items → IsSpared disk sizes version old b.group.items new [] → state_of new ≡ replayed after_command (state_of old) b.group.items → (disk.honest (disk_of new) → disk.honest (disk_of old))
      → (disk.honest (disk_of new) → Leaves disk (disk_of old) (disk_of new) (MeansPrefix (watches_in sizes version) (state_of old) b.group.items)) → IsDone disk sizes version start commands new b.replies.items
  done_committed start commands old new b some p f slot spared made honest run = record {
    answered = answered_met version (slot_number_of new) (room_left new) (state_of start) commands b.replies.items (met_with_group version (slot_number_of old) (room_left old) (state_of start) commands b some f);
    led = made ∙ ap (λ (s : State). replayed after_command s b.group.items) p.led ∙ sym (replayed_append after_command (state_of start) p.committed b.group.items) ∙ ap (λ (l : List Command). replayed after_command (state_of start) l) (sym p.accepted);
    run = λ h. subst (λ (l : List Command). Leaves disk (disk_of start) (disk_of new) (MeansPrefix (watches_in sizes version) (state_of start) l)) (sym p.accepted)
        (run_more disk sizes version (disk_of start) (disk_of old) (disk_of new) (state_of start) (state_of old) p.committed b.group.items p.led (p.run (honest h)) (run h));
    idle = λ none. absurd (some (none_last p.committed b.group.items (sym p.accepted ∙ none)));
    slot = ⊎_elim (λ h. inl (record { number = spared.number ∙ h.number; room = omega (arith, spared.room, h.room) })) (λ w. inr w) slot;
  }

  -- the last group found no memory
  pub done_out_of_memory : (start : K M V disk) (commands : List Command) (old new : K M V disk) (b : Batch V) → (b.group.items ≡ [] → ⊥) → IsPast disk sizes version start commands old b → IsSoFar version (slot_number_of old) (room_left old) (state_of start) commands b
      → new ≡ old → IsDone disk sizes version start commands new (out_of_memory_behind b.first b.replies.items)
  done_out_of_memory start commands old new b some p f same =
      let replies : List Reply = b.replies.items in
      let were : AreMet (state_of start) commands replies = met_with_group version (slot_number_of old) (room_left old) (state_of start) commands b some f in
      let short : IsOutOfMemory (out_of_memory_behind b.first replies) = ⊎_elim
      (λ is. is)
      (λ is. absurd (some (none_behind p.committed b.group.items (sym p.accepted ∙ is ∙ p.front))))
      (out_of_memory_or_all b.first commands replies p.len) in
      let all : accepted_of commands (out_of_memory_behind b.first replies) ≡ p.committed = accepted_behind b.first (state_of start) commands replies were ∙ p.front in
      record {
        answered = answered_met version (slot_number_of new) (room_left new) (state_of start) commands (out_of_memory_behind b.first replies) (met_behind b.first (state_of start) commands replies were);
        led = ap (λ k. state_of k) same ∙ p.led ∙ ap (λ (l : List Command). replayed after_command (state_of start) l) (sym all);
        run = λ h. subst (λ (l : List Command). Leaves disk (disk_of start) (disk_of new) (MeansPrefix (watches_in sizes version) (state_of start) l)) (sym all)
            (subst (λ k. Leaves disk (disk_of start) (disk_of k) (MeansPrefix (watches_in sizes version) (state_of start) p.committed)) (sym same) (p.run (subst (λ k. disk.honest (disk_of k)) same h)));
        idle = λ none. inr short;
        slot = inr (inr short);
      }

  -- the device failed in the last commit
  pub cut_last : (start : K M V disk) (commands : List Command) (old new : K M V disk) (b : Batch V) → IsPast disk sizes version start commands old b → state_of new ≡ state_of old → (disk.honest (disk_of new) → disk.honest (disk_of old))
      → (disk.honest (disk_of new) → Leaves disk (disk_of old) (disk_of new) (MeansPrefix (watches_in sizes version) (state_of old) b.group.items)) → IsCut disk sizes version start commands b.replies.items new b.before
  cut_last start commands old new b p same honest run =
      cut_committing disk sizes version start commands old new b b.before p (was_before disk sizes version start commands old new b.before p.committed (same ∙ p.led) p.before) honest run
