-- By how much a run may raise the slot's number.
use Rattle.std.proofs.Common.{◌≡◌, ◌⊎◌, inl, inr, ℕ, ◌+◌, ◌≤◌, Bool, true, false, cond, ◌&&◌, not, List, [], ◌∷◌, length, nat_le, Option, Some, None, refl, sym, ap, ◌∙◌, arith, MatchBool}
use Rattle.std.specs.Option.{option_map_or}
use Rattle.wm_names.specs.Paths.{Path}
use Rattle.wm_expr.specs.Meanings.{is_path_only}
use Rattle.wm_expr.specs.Views.{term}
use Rattle.wm_registry.specs.declared.command.Command.{Command}
use Rattle.wm_registry.specs.declared.root.Root.{Root}
use Rattle.wm_registry.specs.Roots.{root_at}
use Rattle.wm_view.specs.Histories.{after_operation}
use Rattle.wm_view.specs.declared.op.Op.{Op}
use Rattle.wm_view.specs.declared.op.Op.TheVariants as ops
use Rattle.wm_world.specs.declared.event.Event.{Event}
use Rattle.wm_world.specs.declared.event.Event.TheVariants as events
use Rattle.wm_world.specs.Worlds.{World, at_first, is_of, registry}
use Rattle.wm_world.specs.Steps.{BatchCut, BatchDone, Checkpointed, Cut, MigrateEnds, OpenEnds, Step, is_to_migrate, operated}
use Rattle.wm_world.specs.Laws.{SlotBound, raise_by}

bound_step : (old : World) (event : Event) (new : World) → Step old event new → new.slot ≤ old.slot + raise_by event
bound_step old event new s = by event s
  where
    -- the bound stays
    stays : (v : World) (n : ℕ) → v.slot ≡ old.slot → new ≡ v → new.slot ≤ old.slot + n
    stays v n same e = let is : new.slot ≡ old.slot = ap (λ (w : World). w.slot) e ∙ same in omega (arith, is)

    batch : (b : Bool) (commands : List Command) → MatchBool b (BatchDone old commands new ⊎ BatchCut old commands new) (new ≡ old) → new.slot ≤ old.slot + length commands
    batch true commands (inl (replies, answered, long, raise, e)) = raise.1
    batch true commands (inr (replies, answered, some, (rose, later, raise, e))) = raise.1
    batch false commands e = stays old (length commands) refl e

    checkpoint : (b : Bool) → MatchBool b (Checkpointed old new ⊎ Cut 1 old [] new) (new ≡ old) → new.slot ≤ old.slot + 1
    checkpoint true (inl (inl e)) = let is : new.slot ≡ old.slot + 1 = ap (λ (w : World). w.slot) e in omega (arith, is)
    checkpoint true (inl (inr (spent, e))) = stays old 1 refl e
    checkpoint true (inr (rose, later, raise, e)) = raise.1
    checkpoint false e = stays old 1 refl e

    start : (b : Bool) → MatchBool b (new ≡ old) (OpenEnds old new) → new.slot ≤ old.slot + 1
    start true e = stays old 1 refl e
    start false (inl (found, finds, raise, accepts, e)) = raise.1
    start false (inr (inl (rose, later, e))) = stays (record old { faults = new.faults }) 1 refl e
    start false (inr (inr (inl (rose, later, raise, rest)))) = raise.1
    start false (inr (inr (inr (inl (raise, rest))))) = raise.1
    start false (inr (inr (inr (inr (stage, e))))) = stays old 1 refl e

    migrate : (b : Bool) → MatchBool b (MigrateEnds old new) (new ≡ old) → new.slot ≤ old.slot + 0
    migrate true (inl (found, finds, e)) = stays _ 0 refl e
    migrate true (inr (inl (rose, e))) = stays _ 0 refl e
    migrate true (inr (inr (rose, (found, finds, e)))) = stays _ 0 refl e
    migrate false e = stays old 0 refl e

    if_fits : (b : Bool) (v : World) → v.slot ≡ old.slot → new ≡ cond b v old → new.slot ≤ old.slot + 0
    if_fits true v same e = stays v 0 same e
    if_fits false v same e = stays old 0 refl e

    operation : (path : Path) (op : Op) → new ≡ cond old.up (operated path op old) old → new.slot ≤ old.slot + 0
    operation path op e = if_fits old.up (operated path op old) (at (root_at path (registry old))) e
      where
        at : (o : Option Root) → (option_map_or (λ root. record old { histories = at_first (is_of (registry old).incarnation root.number) (λ h. after_operation h op) old.histories }) o old).slot ≡ old.slot
        at None = refl
        at (Some root) = refl

    by : (event : Event) → Step old event new → new.slot ≤ old.slot + raise_by event
    by (events.Commands commands) q = batch (old.up && nat_le (length commands.items) 64) commands.items q
    by events.Checkpoint q = checkpoint old.up q
    by events.Open q = start old.up q
    by events.Migrate q = migrate (not old.up && is_to_migrate old.stage) q
    by (events.Arm calls) q = stays old 0 refl q
    by (events.ArmOther calls) q = stays old 0 refl q
    by events.Crash (found, finds, e) = stays _ 0 refl e
    by events.Stop q = stays _ 0 refl q
    by (events.Observe path moment pairs) q = operation path (ops.Observe moment pairs) q
    by (events.Recrawl path moment begun_at found) q = operation path (ops.Recrawl moment begun_at found) q
    by (events.AgeOut path time age) q = operation path (ops.AgeOut time age) q
    by (events.Client path test) q = if_fits (is_path_only (term test)) _ refl q
    by (events.Ask n) q = if_fits old.up _ refl q
    by (events.Receive n) q = stays _ 0 refl q
    by (events.Lose n) q = stays _ 0 refl q

pub slot_bound : SlotBound
slot_bound old new [] e = let is : new.slot ≡ old.slot = ap (λ (w : World). w.slot) (sym e) in omega (arith, is)
slot_bound old new (event ∷ events) (mid, step, run) = omega (arith, bound_step old event mid step, slot_bound mid new events run)
