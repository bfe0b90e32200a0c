-- Which refusals are the registry's: none that speaks of the store, and 3 comes to a Begin alone.
use Rattle.std.proofs.Common.{◌≡◌, ◌≢◌, ◌≤◌, ⊎_elim, ap, ℕ, Bool, true, false, cond, List, length, refl, arith}
use Rattle.std.specs.Prelude.{Option, Some, None, nat_lt}
use Rattle.std.specs.List.{list_any}
use Rattle.std.specs.Option.{option_map_or}
use Rattle.wm_disk.specs.Counters.{max_counter}
use Rattle.wm_disk.specs.Refusals.{refusal_number}
use Rattle.wm_disk.specs.declared.refusal.Refusal.{Refusal}
use Rattle.wm_disk.specs.declared.refusal.Refusal.TheVariants.{BadArguments, Exhausted, Full, NotWatched, OldVersion, TooMany}
use Rattle.wm_registry.specs.Endings.{count_fits}
use Rattle.wm_registry.specs.Versions.{max_state_bytes}
use Rattle.wm_registry.specs.Limits.{max_roots, max_triggers}
use Rattle.wm_registry.specs.declared.command.Command.{Command}
use Rattle.wm_registry.specs.declared.command.Command.TheVariants.{Begin, Watch, WatchDel, Trigger, TriggerDel}
use Rattle.wm_registry.specs.declared.reply.Reply.{Reply}
use Rattle.wm_registry.specs.declared.reply.Reply.TheVariants.{Changed, Replaced, Unchanged, Refused}
use Rattle.wm_registry.specs.declared.root.Root.{Root}
use Rattle.wm_registry.specs.Registry.{reply_to, reply_to_trigger, unless_full, watched}
use Rattle.wm_registry.specs.Roots.{State, root_at, is_watched, with_triggers}
use Rattle.wm_registry.specs.Spelling.{state_spelling}
use Rattle.wm_registry.specs.Triggers.{Definition, same_definition, has_trigger, defined}
use Rattle.wm_store.specs.Batches.{in_batch, is_begin}
use Rattle.wm_groupcommit.specs.Books.{IsFailure}
use Rattle.wm_groupcommit.specs.Seats.{IsOfRegistry}
use Rattle.wm_groupcommit.specs.Submits.{IsRefusal}

failure_number : (e : Refusal) → IsFailure e → (12 ≤ refusal_number e) × (refusal_number e ≤ 16)
failure_number e f =
    ⊎_elim (λ x. let n : refusal_number e ≡ 12 = ap refusal_number x in (omega (arith, n), omega (arith, n)))
    (λ g. ⊎_elim (λ x. let n : refusal_number e ≡ 13 = ap refusal_number x in (omega (arith, n), omega (arith, n)))
    (λ h. ⊎_elim (λ x. let n : refusal_number e ≡ 15 = ap refusal_number x in (omega (arith, n), omega (arith, n))) (λ x. let n : refusal_number e ≡ 16 = ap refusal_number x in (omega (arith, n), omega (arith, n))) h) g) f

pub not_failure : (e : Refusal) → IsOfRegistry e → IsFailure e → ⊥
not_failure e r f =
    let few : 12 ≤ refusal_number e = (failure_number e f).0 in
    let most : refusal_number e ≤ 16 = (failure_number e f).1 in
    ⊎_elim (λ x. let n : refusal_number e ≡ 5 = ap refusal_number x in omega (arith, n, few))
    (λ s. ⊎_elim (λ x. let n : refusal_number e ≡ 10 = ap refusal_number x in omega (arith, n, few))
    (λ t. ⊎_elim (λ x. let n : refusal_number e ≡ 11 = ap refusal_number x in omega (arith, n, few)) (λ u. ⊎_elim (λ x. let n : refusal_number e ≡ 17 = ap refusal_number x in omega (arith, n, most)) (λ x. let n : refusal_number e ≡ 21 = ap refusal_number x in omega (arith, n, most)) u) t) s) r

not_three : (e : Refusal) → IsOfRegistry e → e ≡ BadArguments → ⊥
not_three e r b =
    let three : refusal_number e ≡ 3 = ap refusal_number b in
    ⊎_elim (λ x. let n : refusal_number e ≡ 5 = ap refusal_number x in omega (arith, n, three))
    (λ s. ⊎_elim (λ x. let n : refusal_number e ≡ 10 = ap refusal_number x in omega (arith, n, three))
    (λ t. ⊎_elim (λ x. let n : refusal_number e ≡ 11 = ap refusal_number x in omega (arith, n, three)) (λ u. ⊎_elim (λ x. let n : refusal_number e ≡ 17 = ap refusal_number x in omega (arith, n, three)) (λ x. let n : refusal_number e ≡ 21 = ap refusal_number x in omega (arith, n, three)) u) t) s) r

pub three_is_none : IsFailure BadArguments → ⊥
three_is_none f = let few : 12 ≤ 3 = (failure_number BadArguments f).0 in omega (arith, few)

-- how a command of a batch is met, where it isn't refused, or is by the registry
pub unrefused : (s : State) (c : Command) (r : Reply) → r ≡ in_batch s c → (IsRefusal r → ⊥) → r ≡ reply_to s c
unrefused s Begin r e n = absurd (n (BadArguments, e))
unrefused s (Watch p) r e n = e
unrefused s (WatchDel p) r e n = e
unrefused s (Trigger p t) r e n = e
unrefused s (TriggerDel p n') r e n = e

pub refused_by : (s : State) (c : Command) (e : Refusal) → IsOfRegistry e → in_batch s c ≡ Refused e → reply_to s c ≡ Refused e
refused_by s Begin e r h = let same : e ≡ BadArguments = cc in absurd (not_three e r same)
refused_by s (Watch p) e r h = h
refused_by s (WatchDel p) e r h = h
refused_by s (Trigger p t) e r h = h
refused_by s (TriggerDel p n) e r h = h

-- ---- the registry itself never answers 3

abbrev IsOther : Reply → Type 0
IsOther reply = reply ≢ Refused BadArguments

other_if : (b : Bool) (x y : Reply) → IsOther x → IsOther y → IsOther (cond b x y)
other_if true x y p q = p
other_if false x y p q = q

other_full : (new : State) (reply : Reply) → IsOther reply → IsOther (unless_full new reply)
other_full new reply p = other_if (nat_lt (max_state_bytes new.version) (length (state_spelling new))) (Refused Full) reply (λ e. absurd cc) p

other_trigger : (s : State) (path : List ℕ) (trigger : Definition) (root : Root) → IsOther (reply_to_trigger s path trigger root)
other_trigger s path trigger root =
    let new = with_triggers s path root (defined trigger root.triggers) in
    other_if (count_fits s.version trigger.max_files_stdin) _ (Refused OldVersion)
    (other_if (list_any (same_definition trigger) root.triggers) Unchanged _ (λ e. absurd cc)
    (other_if (has_trigger trigger.name root.triggers) (unless_full new Replaced) _ (other_full new Replaced (λ e. absurd cc))
    (other_if (nat_lt (length root.triggers) max_triggers) (unless_full new Changed) (Refused TooMany) (other_full new Changed (λ e. absurd cc)) (λ e. absurd cc))))
    (λ e. absurd cc)

other_at : (f : Root → Reply) → ((root : Root) → IsOther (f root)) → (root : Option Root) → IsOther (option_map_or f root (Refused NotWatched))
other_at f other None = λ e. absurd cc
other_at f other (Some root) = other root

pub begin_alone : (s : State) (c : Command) → in_batch s c ≡ Refused BadArguments → is_begin c ≡ true
begin_alone s Begin h = refl
begin_alone s (Watch path) h =
    absurd (other_if (is_watched path s) Unchanged _ (λ e. absurd cc)
    (other_if (nat_lt (length s.roots) max_roots) _ (Refused TooMany)
    (other_if (nat_lt s.next max_counter) (unless_full (watched s path) Changed) (Refused Exhausted) (other_full (watched s path) Changed (λ e. absurd cc)) (λ e. absurd cc))
    (λ e. absurd cc)) h)
begin_alone s (WatchDel path) h = absurd (other_if (is_watched path s) Changed (Refused NotWatched) (λ e. absurd cc) (λ e. absurd cc) h)
begin_alone s (Trigger path trigger) h = absurd (other_at (reply_to_trigger s path trigger) (other_trigger s path trigger) (root_at path s) h)
begin_alone s (TriggerDel path name) h =
    absurd (other_at (λ root. cond (has_trigger name root.triggers) Changed Unchanged) (λ root. other_if (has_trigger name root.triggers) Changed Unchanged (λ e. absurd cc) (λ e. absurd cc)) (root_at path s) h)
