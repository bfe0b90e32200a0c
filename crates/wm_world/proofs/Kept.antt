-- Nothing is invented, what was acknowledged stays, and a restart finds it.
use Rattle.std.proofs.Common.{◌≡◌, ◌⊎◌, inl, inr, ℕ, Bool, true, false, cond, not, ◌&&◌, List, [], ◌∷◌, ◌++◌, length, nat_le, Option, Some, None, refl, sym, ap, subst, ◌∙◌, append_assoc, append-nil, MatchBool, true≢false}
use Rattle.std.specs.Option.{option_map_or}
use Rattle.wm_disk.specs.Contents.{Rose}
use Rattle.wm_disk.specs.PartLaws.{part_behind, part_both, part_prefix, part_same, part_then}
use Rattle.wm_disk.specs.Parts.{IsPartOf}
use Rattle.wm_names.specs.Paths.{Path}
use Rattle.wm_expr.specs.Meanings.{is_path_only}
use Rattle.wm_expr.specs.Views.{term}
use Rattle.wm_registry.specs.Limits.{max_batch}
use Rattle.wm_registry.specs.declared.command.Command.{Command}
use Rattle.wm_registry.specs.declared.command.Command.TheVariants.{Begin, Watch, WatchDel, Trigger, TriggerDel}
use Rattle.wm_registry.specs.declared.reply.Reply.{Reply}
use Rattle.wm_registry.specs.declared.root.Root.{Root}
use Rattle.wm_registry.specs.Registry.{changed, changes, is_change}
use Rattle.wm_registry.specs.declared.version.Version.{Version}
use Rattle.wm_registry.specs.declared.version.Version.TheVariants.{One, Two}
use Rattle.wm_registry.specs.Roots.{State, root_at}
use Rattle.wm_store.specs.Batches.{AreAnswered, IsMet, accepted_of, is_begin}
use Rattle.wm_view.specs.Histories.{after_operation}
use Rattle.wm_view.specs.declared.op.Op.{Op}
use Rattle.wm_view.specs.declared.op.Op.TheVariants as ops
use Rattle.wm_world.specs.declared.event.Event.{Event}
use Rattle.wm_world.specs.declared.event.Event.TheVariants as events
use Rattle.wm_world.specs.Worlds.{World, at_first, After, Alone, Before, Between, cannot_rise, nothing_yet, nothing_yet_of_two, in_version, is_of, registry, replay}
use Rattle.wm_world.specs.Steps.{BatchCut, BatchDone, IsPrefix, Checkpointed, Cut, Finds, MigrateEnds, OpenEnds, Run, Step, begin_on, fits_migration, is_to_migrate, operated}
use Rattle.wm_world.specs.Laws.{AcknowledgedStays, KeptStays, MigrationFinds, NothingInvented, RestartFinds, given, given_by, without_begins}
use Rattle.wm_world.proofs.Batching.{none_accepted, not_begin}
use Rattle.wm_world.proofs.Reached.{Settled, settled_shape, settled_start}
use Rattle.wm_world.proofs.Shapes.{shape}

-- ---- what was kept stays

pub kept_stays : KeptStays
kept_stays old new [] e = ([], append-nil old.kept ∙ ap (λ (w : World). w.kept) e)
kept_stays old new (event ∷ events) (mid, step, run) =
    let s = shape old event mid step in
    let later = kept_stays mid new events run in
    (s.more ++ later.0, sym (append_assoc old.kept s.more later.0) ∙ ap (λ k. k ++ later.0) (sym s.kept) ∙ later.1)

pub acknowledged_stays : AcknowledgedStays
acknowledged_stays old mid new commands events (replies, answered, long, raise, e) run =
    let there : mid.kept ≡ old.kept ++ accepted_of commands mid.replies = ap (λ (w : World). w.kept) e ∙ ap (λ rs. old.kept ++ accepted_of commands rs) (sym (ap (λ (w : World). w.replies) e)) in
    subst (λ k. IsPrefix k new.kept) there (kept_stays mid new events run)

-- ---- what a batch accepts of its commands

part_of_more : (xs : List Command) (c : Command) (cs : List Command) → IsPartOf xs (without_begins cs) → IsPartOf xs (without_begins (c ∷ cs))
part_of_more xs c cs h = elim (not (is_begin c)) as (λ b. IsPartOf xs (cond b (c ∷ without_begins cs) (without_begins cs))) [ true ↦ part_behind xs (without_begins cs) c h | false ↦ h ]

part_with : (s : State) (c : Command) (r : Reply) (xs cs : List Command) → IsMet s c r → is_change r ≡ true → IsPartOf xs (without_begins cs) → IsPartOf (c ∷ xs) (without_begins (c ∷ cs))
part_with s Begin r xs cs is t h = absurd (not_begin s r is t)
part_with s (Watch path) r xs cs is t h = inl (refl, h)
part_with s (WatchDel path) r xs cs is t h = inl (refl, h)
part_with s (Trigger path trigger) r xs cs is t h = inl (refl, h)
part_with s (TriggerDel path name) r xs cs is t h = inl (refl, h)

accepted_part : (v : Version) (n : ℕ) (s : State) (cs : List Command) (rs : List Reply) → AreAnswered v n 0 s cs rs → IsPartOf (accepted_of cs rs) (without_begins cs)
accepted_part v n s [] rs h = tt
accepted_part v n s (c ∷ cs) [] h = tt
accepted_part v n s (c ∷ cs) (r ∷ rs) (inr (spent, accepted, e)) =
    subst (λ qs. IsPartOf (accepted_of (c ∷ cs) qs) (without_begins (c ∷ cs))) (sym e) (subst (λ ds. IsPartOf ds (without_begins (c ∷ cs))) (sym (none_accepted (c ∷ cs))) tt)
accepted_part v n s (c ∷ cs) (r ∷ rs) (inl (is, rest)) = by (λ t. accepted_part v n t cs rs) (is_change r) refl rest
  where
    by : ((t : State) → AreAnswered v n 0 t cs rs → IsPartOf (accepted_of cs rs) (without_begins cs)) → (b : Bool) → is_change r ≡ b → AreAnswered v n 0 (cond b (changed s c) s) cs rs
        → IsPartOf (cond b (c ∷ accepted_of cs rs) (accepted_of cs rs)) (without_begins (c ∷ cs))
    by again true t h = part_with s c r (accepted_of cs rs) cs is t (again (changed s c) h)
    by again false t h = part_of_more (accepted_of cs rs) c cs (again s h)

-- ---- nothing is invented

-- what stands in the world of commands
abbrev standing : World → List Command
standing w = w.kept ++ w.pending

begin_on_part : (found : List Command) → IsPartOf (begin_on found) (Begin ∷ [])
begin_on_part found = elim (changes (replay found) Begin) as (λ b. IsPartOf (cond b (Begin ∷ []) []) (Begin ∷ [])) [ true ↦ inl (refl, tt) | false ↦ tt ]

-- what a restart finds was there
found_part : (old : World) (found : List Command) → Finds old found → IsPartOf found (standing old)
found_part old found (part, (rest, whole), is) =
    subst (λ xs. IsPartOf xs (standing old)) (sym is)
    (subst (λ xs. IsPartOf (old.kept ++ part) xs) (append_assoc old.kept part rest ∙ ap (λ p. old.kept ++ p) whole) (part_prefix (old.kept ++ part) (old.kept ++ part) rest (part_same (old.kept ++ part))))

-- what a batch kept and what it was given
batch_part : (old : World) (v : Version) (n : ℕ) (s : State) (commands : List Command) (replies : List Reply) → old.pending ≡ [] → AreAnswered v n 0 s commands replies → IsPartOf (old.kept ++ accepted_of commands replies) (standing old ++ without_begins commands)
batch_part old v n s commands replies clear answered =
    subst (λ p. IsPartOf (old.kept ++ accepted_of commands replies) ((old.kept ++ p) ++ without_begins commands)) (sym clear)
    (subst (λ xs. IsPartOf (old.kept ++ accepted_of commands replies) (xs ++ without_begins commands)) (sym (append-nil old.kept))
    (part_both old.kept old.kept (accepted_of commands replies) (without_begins commands) (part_same old.kept) (accepted_part v n s commands replies answered)))

part_step : (old : World) (event : Event) (new : World) → Settled old → Step old event new → IsPartOf (standing new) (standing old ++ given_by event)
part_step old event new was s = by event s
  where
    to : (more : List Command) (v : World) → new ≡ v → IsPartOf (standing v) (standing old ++ more) → IsPartOf (standing new) (standing old ++ more)
    to more v e h = subst (λ (w : World). IsPartOf (standing w) (standing old ++ more)) (sym e) h

    -- the same commands stand in it
    same : (more : List Command) → IsPartOf (standing old) (standing old ++ more)
    same more = part_prefix (standing old) (standing old) more (part_same (standing old))

    -- what was found, and no more
    found_alone : (found more : List Command) → Finds old found → IsPartOf (found ++ []) (standing old ++ more)
    found_alone found more finds = subst (λ xs. IsPartOf xs (standing old ++ more)) (sym (append-nil found)) (part_prefix found (standing old) more (found_part old found finds))

    batch : (u : Bool) → old.up ≡ u → (b : Bool) (commands : List Command) → MatchBool (u && b) (BatchDone old commands new ⊎ BatchCut old commands new) (new ≡ old) → IsPartOf (standing new) (standing old ++ without_begins commands)
    batch true up true commands (inl (replies, answered, long, raise, e)) =
        to (without_begins commands) _ e
        (subst (λ xs. IsPartOf xs (standing old ++ without_begins commands)) (sym (append-nil (old.kept ++ accepted_of commands replies)) ∙ ap (λ p. (old.kept ++ accepted_of commands replies) ++ p) (sym (was.pending up)))
        (batch_part old (registry old).version new.slot (registry old) commands replies (was.pending up) answered))
    batch true up true commands (inr (replies, answered, some, (rose, later, raise, e))) = to (without_begins commands) _ e (batch_part old (registry old).version new.slot (registry old) commands replies (was.pending up) answered)
    batch true up false commands e = to (without_begins commands) old e (same (without_begins commands))
    batch false up b commands e = to (without_begins commands) old e (same (without_begins commands))

    checkpoint : (u : Bool) → old.up ≡ u → MatchBool u (Checkpointed old new ⊎ Cut 1 old [] new) (new ≡ old) → IsPartOf (standing new) (standing old ++ [])
    checkpoint true up (inl (inl e)) = to [] _ e (same [])
    checkpoint true up (inl (inr (spent, e))) = to [] old e (same [])
    checkpoint true up (inr (rose, later, raise, e)) = to [] _ e (subst (λ p. IsPartOf (old.kept ++ p) (standing old ++ [])) (was.pending up) (same []))
    checkpoint false up e = to [] old e (same [])

    start : (u : Bool) → MatchBool u (new ≡ old) (OpenEnds old new) → IsPartOf (standing new) (standing old ++ Begin ∷ [])
    start true e = to (Begin ∷ []) old e (same (Begin ∷ []))
    start false (inl (found, finds, raise, accepts, e)) =
        to (Begin ∷ []) _ e (subst (λ xs. IsPartOf xs (standing old ++ Begin ∷ [])) (sym (append-nil (found ++ Begin ∷ []))) (part_both found (standing old) (Begin ∷ []) (Begin ∷ []) (found_part old found finds) (inl (refl, tt))))
    start false (inr (inl (rose, later, e))) = to (Begin ∷ []) _ e (same (Begin ∷ []))
    start false (inr (inr (inl (rose, later, raise, (found, finds, e))))) = to (Begin ∷ []) _ e (part_both found (standing old) (begin_on found) (Begin ∷ []) (found_part old found finds) (begin_on_part found))
    start false (inr (inr (inr (inl (raise, (found, finds, why, e)))))) = to (Begin ∷ []) _ e (found_alone found (Begin ∷ []) finds)
    start false (inr (inr (inr (inr (stage, e))))) = to (Begin ∷ []) old e (same (Begin ∷ []))

    migrate : (b : Bool) → MatchBool b (MigrateEnds old new) (new ≡ old) → IsPartOf (standing new) (standing old ++ [])
    migrate true (inl (found, finds, e)) = to [] _ e (found_alone found [] finds)
    migrate true (inr (inl (rose, e))) = to [] _ e (same [])
    migrate true (inr (inr (rose, (found, finds, e)))) = to [] _ e (found_alone found [] finds)
    migrate false e = to [] old e (same [])

    if_fits : (b : Bool) (v : World) → standing v ≡ standing old → new ≡ cond b v old → IsPartOf (standing new) (standing old ++ [])
    if_fits true v stands e = to [] v e (subst (λ xs. IsPartOf xs (standing old ++ [])) (sym stands) (same []))
    if_fits false v stands e = to [] old e (same [])

    operation : (path : Path) (op : Op) → new ≡ cond old.up (operated path op old) old → IsPartOf (standing new) (standing old ++ [])
    operation path op e = if_fits old.up (operated path op old) (at (root_at path (registry old))) e
      where
        at : (o : Option Root) → standing (option_map_or (λ root. record old { histories = at_first (is_of (registry old).incarnation root.number) (λ h. after_operation h op) old.histories }) o old) ≡ standing old
        at None = refl
        at (Some root) = refl

    by : (event : Event) → Step old event new → IsPartOf (standing new) (standing old ++ given_by event)
    by (events.Commands commands) q = batch old.up refl (nat_le (length commands.items) max_batch) commands.items q
    by events.Checkpoint q = checkpoint old.up refl q
    by events.Open q = start old.up q
    by events.Migrate q = migrate (not old.up && is_to_migrate old.stage) q
    by (events.Arm calls) q = to [] old q (same [])
    by (events.ArmOther calls) q = to [] old q (same [])
    by events.Crash (found, finds, e) = to [] _ e (found_alone found [] finds)
    by events.Stop q = to [] _ q (same [])
    by (events.Observe path moment pairs) q = operation path (ops.Observe moment pairs) q
    by (events.Recrawl path moment begun_at found) q = operation path (ops.Recrawl moment begun_at found) q
    by (events.AgeOut path time age) q = operation path (ops.AgeOut time age) q
    by (events.Client path test) q = if_fits (is_path_only (term test)) _ refl q
    by (events.Ask n) q = if_fits old.up _ refl q
    by (events.Receive n) q = to [] _ q (same [])
    by (events.Lose n) q = to [] _ q (same [])

part_run : (old : World) (es : List Event) (new : World) → Settled old → Run old es new → IsPartOf (standing new) (standing old ++ given es)
part_run old [] new was e = subst (λ (w : World). IsPartOf (standing w) (standing old ++ [])) e (part_prefix (standing old) (standing old) [] (part_same (standing old)))
part_run old (event ∷ es) new was (mid, step, run) =
    part_then (standing new) (standing mid ++ given es) (standing old ++ (given_by event ++ given es)) (part_run mid es new (settled_shape old mid (shape old event mid step) was) run)
    (subst (λ xs. IsPartOf (standing mid ++ given es) xs) (append_assoc (standing old) (given_by event) (given es))
    (part_both (standing mid) (standing old ++ given_by event) (given es) (given es) (part_step old event mid was step) (part_same (given es))))

pub nothing_invented : NothingInvented
nothing_invented es w (inl (faults, run)) = part_run (nothing_yet faults) es w (settled_start Two Alone faults 0) run
nothing_invented es w (inr (faults, other, run)) = part_run (nothing_yet_of_two faults other) es w (settled_start One Before faults other) run

-- ---- restarts

pub restart_finds : RestartFinds
restart_finds old new down step = by (subst (λ b. MatchBool b (new ≡ old) (OpenEnds old new)) down step)
  where
    Why : Type 0
    Why = Rose old.faults new.faults ⊎ (cannot_rise old.slot ≡ true) ⊎ (changes (registry new) Begin ≡ false) ⊎ (old.stage ≡ Between)

    Found : Type 0
    Found = (part : List Command) × IsPrefix part old.pending
        × (((new.up ≡ true) × (changes (replay (old.kept ++ part)) Begin ≡ true) × (registry new ≡ in_version old.version (replay (old.kept ++ part ++ Begin ∷ []))))
        ⊎ ((new.up ≡ false) × (new.kept ≡ old.kept ++ part) × Why))

    is_down : (v : World) → v.up ≡ old.up → new ≡ v → new.up ≡ false
    is_down v same e = ap (λ (w : World). w.up) e ∙ same ∙ down

    -- what is kept by then
    left : (v : World) → v.up ≡ old.up → new ≡ v → Finds old v.kept → Why → Found
    left v same e (part, begins, is) why = (part, begins, inr (is_down v same e, ap (λ (w : World). w.kept) e ∙ is, why))

    by : OpenEnds old new → Found
    by (inl (found, (part, begins, is), raise, accepts, e)) =
        (part, begins, inl (ap (λ (w : World). w.up) e, ap (λ cs. changes (replay cs) Begin) (sym is) ∙ accepts, ap (λ (w : World). registry w) e ∙ ap (λ cs. in_version old.version (replay (cs ++ Begin ∷ []))) is))
    by (inr (inl (rose, later, e))) = left (record old { faults = new.faults }) refl e ([], (old.pending, refl), sym (append-nil old.kept)) (inl rose)
    by (inr (inr (inl (rose, later, raise, (found, finds, e))))) = left _ refl e finds (inl rose)
    by (inr (inr (inr (inl (raise, (found, finds, inl refused, e)))))) = left _ refl e finds (inr (inr (inl (ap (λ (w : World). changes (replay w.kept) Begin) e ∙ refused))))
    by (inr (inr (inr (inl (raise, (found, finds, inr spent, e)))))) = left _ refl e finds (inr (inl spent))
    by (inr (inr (inr (inr (stage, e))))) = left old refl e ([], (old.pending, refl), sym (append-nil old.kept)) (inr (inr (inr stage)))

-- ---- migrations

is_down : (up begun : Bool) → (not up && begun) ≡ true → up ≡ false
is_down true begun e = absurd (true≢false (sym e))
is_down false begun e = refl

pub migration_finds : MigrationFinds
migration_finds old new fits step = by (subst (λ b. MatchBool b (MigrateEnds old new) (new ≡ old)) fits step)
  where
    down : old.up ≡ false
    down = is_down old.up (is_to_migrate old.stage) fits

    Found : Type 0
    Found = (part : List Command) × IsPrefix part old.pending × (new.up ≡ false) × (new.kept ≡ old.kept ++ part)
        × (((new.stage ≡ After) × (new.version ≡ Two) × (new.pending ≡ []) × (registry new ≡ in_version Two (replay (old.kept ++ part))))
        ⊎ ((Rose old.faults new.faults ⊎ Rose old.other_faults new.other_faults) × (new.version ≡ old.version) × (fits_migration new ≡ true)))

    by : MigrateEnds old new → Found
    by (inl (found, (part, begins, is), e)) = (
      part,
      begins,
      ap (λ (w : World). w.up) e ∙ down,
      ap (λ (w : World). w.kept) e ∙ is,
      inl (ap (λ (w : World). w.stage) e, ap (λ (w : World). w.version) e, ap (λ (w : World). w.pending) e, ap registry e ∙ ap (λ cs. in_version Two (replay cs)) is),
    )
    by (inr (inl (failed, e))) =
        ([], (old.pending, refl), ap (λ (w : World). w.up) e ∙ down, ap (λ (w : World). w.kept) e ∙ sym (append-nil old.kept), inr (failed.0, ap (λ (w : World). w.version) e, ap fits_migration e ∙ fits))
    by (inr (inr (failed, (found, (part, begins, is), e)))) =
        (part, begins, ap (λ (w : World). w.up) e ∙ down, ap (λ (w : World). w.kept) e ∙ is, inr (failed.0, ap (λ (w : World). w.version) e, ap fits_migration e ∙ (λ i. not (down i) && true)))
