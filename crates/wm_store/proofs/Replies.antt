-- What holds of every reply of the registry, by cases on the command.
use Rattle.std.proofs.Common.{◌≡◌, ◌≢◌, inl, inr, ⊎_elim, ◌⊎◌, Bool, true, false, cond, nat_lt, refl, sym, ◌∙◌, ap}
use Rattle.wm_disk.specs.declared.refusal.Refusal.{Refusal}
use Rattle.wm_disk.specs.declared.refusal.Refusal.TheVariants.{BadArguments, NoMemory, Exhausted, Full, NotWatched, OldVersion, TooMany}
use Rattle.wm_disk.specs.Counters.{max_counter}
use Rattle.wm_registry.specs.Limits.{max_roots, max_triggers}
use Rattle.wm_registry.specs.declared.command.Command.{Command}
use Rattle.wm_registry.specs.declared.command.Command.TheVariants.{Begin, Watch, WatchDel, Trigger, TriggerDel}
use Rattle.wm_registry.specs.declared.reply.Reply.{Reply}
use Rattle.wm_registry.specs.declared.reply.Reply.TheVariants.{Changed, Replaced, Unchanged, Refused}
use Rattle.std.proofs.Common.{ℕ, List, length, Option, Some, None}
use Rattle.std.specs.List.{list_any}
use Rattle.std.specs.Option.{option_map_or}
use Rattle.wm_registry.specs.declared.root.Root.{Root}
use Rattle.wm_registry.specs.Registry.{reply_to, reply_to_trigger, unless_full, watched, changes, is_change}
use Rattle.wm_registry.specs.Roots.{State, is_watched, root_at, with_triggers}
use Rattle.wm_registry.specs.Spelling.{state_spelling}
use Rattle.wm_registry.specs.Triggers.{Definition, defined, has_trigger, same_definition}
use Rattle.wm_store.specs.Batches.{is_begin}
use Rattle.wm_registry.specs.Endings.{count_fits}
use Rattle.wm_registry.specs.Versions.{max_state_bytes}

-- either of two replies
either : (b : Bool) (x y : Reply) → (cond b x y ≡ x) ⊎ (cond b x y ≡ y)
either true x y = inl refl
either false x y = inr refl

-- A Begin is accepted, or the incarnation is spent.
pub begin_reply : (s : State) → (reply_to s Begin ≡ Changed) ⊎ (reply_to s Begin ≡ Refused Exhausted)
begin_reply s = either (nat_lt s.incarnation max_counter) Changed (Refused Exhausted)

-- which replies the registry gives
abbrev IsUsual : Reply → Type 0
IsUsual reply = (reply ≢ Refused BadArguments) × (reply ≢ Refused NoMemory)

usual_changed : IsUsual Changed
usual_changed = (λ e. absurd cc, λ e. absurd cc)

usual_exhausted : IsUsual (Refused Exhausted)
usual_exhausted = (λ e. absurd cc, λ e. absurd cc)

usual_if : (b : Bool) (x y : Reply) → IsUsual x → IsUsual y → IsUsual (cond b x y)
usual_if true x y p q = p
usual_if false x y p q = q

usual_replaced : IsUsual Replaced
usual_replaced = (λ e. absurd cc, λ e. absurd cc)

usual_unchanged : IsUsual Unchanged
usual_unchanged = (λ e. absurd cc, λ e. absurd cc)

usual_full : IsUsual (Refused Full)
usual_full = (λ e. absurd cc, λ e. absurd cc)

usual_not_watched : IsUsual (Refused NotWatched)
usual_not_watched = (λ e. absurd cc, λ e. absurd cc)

usual_too_many : IsUsual (Refused TooMany)
usual_too_many = (λ e. absurd cc, λ e. absurd cc)

usual_old : IsUsual (Refused OldVersion)
usual_old = (λ e. absurd cc, λ e. absurd cc)

usual_unless_full : (new : State) (reply : Reply) → IsUsual reply → IsUsual (unless_full new reply)
usual_unless_full new reply p = usual_if (nat_lt (max_state_bytes new.version) (length (state_spelling new))) (Refused Full) reply usual_full p

usual_trigger : (s : State) (path : List ℕ) (trigger : Definition) (root : Root) → IsUsual (reply_to_trigger s path trigger root)
usual_trigger s path trigger root =
    let new = with_triggers s path root (defined trigger root.triggers) in
    let fits = usual_unless_full new Changed usual_changed in
    usual_if (count_fits s.version trigger.max_files_stdin) _ (Refused OldVersion)
    (usual_if (list_any (same_definition trigger) root.triggers) Unchanged _ usual_unchanged
    (usual_if (has_trigger trigger.name root.triggers) (unless_full new Replaced) _ (usual_unless_full new Replaced usual_replaced)
    (usual_if (nat_lt (length root.triggers) max_triggers) (unless_full new Changed) (Refused TooMany) fits usual_too_many)))
    usual_old

usual_at : (f : Root → Reply) → ((root : Root) → IsUsual (f root)) → (root : Option Root) → IsUsual (option_map_or f root (Refused NotWatched))
usual_at f usual None = usual_not_watched
usual_at f usual (Some root) = usual root

usual : (s : State) (c : Command) → IsUsual (reply_to s c)
usual s Begin = usual_if (nat_lt s.incarnation max_counter) Changed (Refused Exhausted) usual_changed usual_exhausted
usual s (Watch path) =
    usual_if (is_watched path s) Unchanged _ usual_unchanged
    (usual_if (nat_lt (length s.roots) max_roots) _ (Refused TooMany)
    (usual_if (nat_lt s.next max_counter) (unless_full (watched s path) Changed) (Refused Exhausted) (usual_unless_full (watched s path) Changed usual_changed) usual_exhausted)
    usual_too_many)
usual s (WatchDel path) = usual_if (is_watched path s) Changed (Refused NotWatched) usual_changed usual_not_watched
usual s (Trigger path trigger) = usual_at (reply_to_trigger s path trigger) (usual_trigger s path trigger) (root_at path s)
usual s (TriggerDel path name) =
    usual_at (λ root. cond (has_trigger name root.triggers) Changed Unchanged) (λ root. usual_if (has_trigger name root.triggers) Changed Unchanged usual_changed usual_unchanged) (root_at path s)

pub never_bad : (s : State) (c : Command) → reply_to s c ≢ Refused BadArguments
never_bad s c = (usual s c).0

pub never_out_of_memory : (s : State) (c : Command) → reply_to s c ≢ Refused NoMemory
never_out_of_memory s c = (usual s c).1

was_exhausted : (s : State) (x : Refusal) → Refused x ≡ reply_to s Begin → (x ≡ Exhausted) × (reply_to s Begin ≡ Refused Exhausted)
was_exhausted s x h = ⊎_elim (λ e. let clash : Refused x ≡ Changed = h ∙ e in absurd cc) (λ e. let same : Refused x ≡ Refused Exhausted = h ∙ e in (cc, e)) (begin_reply s)

-- why a Begin is refused
pub begin_refused : (s : State) (x : Refusal) → (Refused x ≢ Refused NoMemory → Refused x ≡ reply_to s Begin) → (x ≡ NoMemory) ⊎ ((x ≡ Exhausted) × (reply_to s Begin ≡ Refused Exhausted))
begin_refused s NoMemory h = inl refl
begin_refused s x h = inr (was_exhausted s x (h (λ e. absurd cc)))

-- a Begin that isn't refused changes the state
pub begin_accepted : (s : State) (r : Reply) → (r ≢ Refused NoMemory → r ≡ reply_to s Begin) → ((x : Refusal) → r ≡ Refused x → ⊥) → changes s Begin ≡ true
begin_accepted s r h none =
    let same : r ≡ reply_to s Begin = h (none NoMemory) in
    ⊎_elim (λ e. ap is_change e) (λ e. absurd (none Exhausted (same ∙ e))) (begin_reply s)

-- and is answered so
pub begin_changed : (s : State) → changes s Begin ≡ true → reply_to s Begin ≡ Changed
begin_changed s h = ⊎_elim (λ e. e) (λ e. let clash : true ≡ false = sym h ∙ ap is_change e in absurd cc) (begin_reply s)

pub not_begin : (c : Command) → (c ≡ Begin → ⊥) → is_begin c ≡ false
not_begin Begin h = absurd (h refl)
not_begin (Watch path) h = refl
not_begin (WatchDel path) h = refl
not_begin (Trigger path trigger) h = refl
not_begin (TriggerDel path name) h = refl
