-- What holds of each client, through one step.
use Rattle.std.proofs.Common.{◌≡◌, ◌⊎◌, inl, inr, ℕ, zero, suc, Bool, true, false, cond, ◌&&◌, not, List, [], ◌∷◌, ◌++◌, length, map, Option, Some, None, nat_le, refl, sym, subst, MatchBool}
use Rattle.std.specs.List.{AllByRecursion}
use Rattle.std.specs.Option.{option_map_or}
use Rattle.wm_names.specs.Paths.{Path}
use Rattle.wm_expr.specs.declared.expr.Expr.{Expr}
use Rattle.wm_expr.specs.Meanings.{is_path_only}
use Rattle.wm_expr.specs.Views.{term}
use Rattle.wm_registry.specs.Limits.{max_batch}
use Rattle.wm_registry.specs.declared.command.Command.{Command}
use Rattle.wm_registry.specs.declared.root.Root.{Root}
use Rattle.wm_registry.specs.Roots.{root_at}
use Rattle.wm_store.specs.Batches.{accepted_of}
use Rattle.wm_view.specs.Histories.{after_operation}
use Rattle.wm_view.specs.declared.op.Op.{Op}
use Rattle.wm_view.specs.declared.op.Op.TheVariants as ops
use Rattle.wm_world.specs.declared.connection.Connection.{Connection}
use Rattle.wm_world.specs.declared.event.Event.{Event}
use Rattle.wm_world.specs.declared.event.Event.TheVariants as events
use Rattle.wm_world.specs.Worlds.{World, at_first, connected, is_of, registry, without_answer}
use Rattle.wm_world.specs.Steps.{BatchCut, BatchDone, Checkpointed, Cut, MigrateEnds, OpenEnds, Step, asking, changed_at, is_to_migrate, operated, receiving}

pub all_on : (P Q : Connection → Type 0) → ((c : Connection) → P c → Q c) → (cs : List Connection) → AllByRecursion P cs → AllByRecursion Q cs
all_on P Q f [] h = tt
all_on P Q f (c ∷ cs) h = (f c h.0, all_on P Q f cs h.1)

all_mapped : (P : Connection → Type 0) (g : Connection → Connection) → ((c : Connection) → P c → P (g c)) → (cs : List Connection) → AllByRecursion P cs → AllByRecursion P (map g cs)
all_mapped P g f [] h = tt
all_mapped P g f (c ∷ cs) h = (f c h.0, all_mapped P g f cs h.1)

all_changed : (P : Connection → Type 0) (g : Connection → Connection) → ((c : Connection) → P c → P (g c)) → (n : ℕ) (cs : List Connection) → AllByRecursion P cs → AllByRecursion P (changed_at g n cs)
all_changed P g f zero [] h = tt
all_changed P g f (suc n) [] h = tt
all_changed P g f zero (c ∷ cs) h = (f c h.0, h.1)
all_changed P g f (suc n) (c ∷ cs) h = (h.0, all_changed P g f n cs h.1)

all_pushed : (P : Connection → Type 0) (cs : List Connection) (d : Connection) → AllByRecursion P cs → P d → AllByRecursion P (cs ++ d ∷ [])
all_pushed P [] d h p = (p, tt)
all_pushed P (c ∷ cs) d h p = (h.0, all_pushed P cs d h.1 p)

-- what of a client no event of its own ends
pub record Lasts (P : Connection → Type 0) (w : World) : Type 0 where
  pub without : (c : Connection) → P c → P (without_answer c)
  pub receives : (c : Connection) → P c → P (receiving c)
  pub begins : (path : Path) (test : Expr) → is_path_only (term test) ≡ true → P (connected path test)
  pub asks : (c : Connection) → P c → P (asking w c)

pub each_client : (P : Connection → Type 0) (old : World) (event : Event) (new : World) → Lasts P old → AllByRecursion P old.clients → Step old event new → AllByRecursion P new.clients
each_client P old event new lasts g s = by event s
  where
    to : (v : World) → new ≡ v → AllByRecursion P v.clients → AllByRecursion P new.clients
    to v e h = subst (λ u. AllByRecursion P u.clients) (sym e) h

    lost : AllByRecursion P (map without_answer old.clients)
    lost = all_mapped P without_answer lasts.without old.clients g

    if_fits : (b : Bool) (v : World) → new ≡ cond b v old → AllByRecursion P v.clients → AllByRecursion P new.clients
    if_fits true v e h = to v e h
    if_fits false v e h = to old e g

    cut : (by : ℕ) (commands : List Command) → Cut by old commands new → AllByRecursion P new.clients
    cut by commands (rose, later, raise, e) = to _ e lost

    batch : (b : Bool) (commands : List Command) → MatchBool b (BatchDone old commands new ⊎ BatchCut old commands new) (new ≡ old) → AllByRecursion P new.clients
    batch true commands (inl (replies, answered, long, raise, e)) = to _ e g
    batch true commands (inr (replies, answered, some, c)) = cut (length commands) (accepted_of commands replies) c
    batch false commands e = to old e g

    checkpoint : (b : Bool) → MatchBool b (Checkpointed old new ⊎ Cut 1 old [] new) (new ≡ old) → AllByRecursion P new.clients
    checkpoint true (inl (inl e)) = to _ e g
    checkpoint true (inl (inr (spent, e))) = to old e g
    checkpoint true (inr c) = cut 1 [] c
    checkpoint false e = to old e g

    start : (b : Bool) → MatchBool b (new ≡ old) (OpenEnds old new) → AllByRecursion P new.clients
    start true e = to old e g
    start false (inl (found, finds, raise, accepts, e)) = to _ e g
    start false (inr (inl (rose, later, e))) = to _ e g
    start false (inr (inr (inl (rose, later, raise, (found, finds, e))))) = to _ e g
    start false (inr (inr (inr (inl (raise, (found, finds, why, e)))))) = to _ e g
    start false (inr (inr (inr (inr (stage, e))))) = to old e g

    migrate : (b : Bool) → MatchBool b (MigrateEnds old new) (new ≡ old) → AllByRecursion P new.clients
    migrate true (inl (found, finds, e)) = to _ e g
    migrate true (inr (inl (rose, e))) = to _ e g
    migrate true (inr (inr (rose, (found, finds, e)))) = to _ e g
    migrate false e = to old e g

    operation : (b : Bool) (path : Path) (op : Op) → new ≡ cond b (operated path op old) old → AllByRecursion P new.clients
    operation true path op e = at (root_at path (registry old)) e
      where
        at : (o : Option Root) → new ≡ option_map_or (λ root. record old { histories = at_first (is_of (registry old).incarnation root.number) (λ h. after_operation h op) old.histories }) o old → AllByRecursion P new.clients
        at None q = to old q g
        at (Some root) q = to (record old { histories = at_first (is_of (registry old).incarnation root.number) (λ h. after_operation h op) old.histories }) q g
    operation false path op e = to old e g

    by : (event : Event) → Step old event new → AllByRecursion P new.clients
    by (events.Commands commands) q = batch (old.up && nat_le (length commands.items) max_batch) commands.items q
    by events.Checkpoint q = checkpoint old.up q
    by events.Open q = start old.up q
    by events.Migrate q = migrate (not old.up && is_to_migrate old.stage) q
    by (events.Arm calls) q = to old q g
    by (events.ArmOther calls) q = to old q g
    by events.Crash (found, finds, e) = to _ e lost
    by events.Stop q = to _ q lost
    by (events.Observe path moment pairs) q = operation old.up path (ops.Observe moment pairs) q
    by (events.Recrawl path moment begun_at found) q = operation old.up path (ops.Recrawl moment begun_at found) q
    by (events.AgeOut path time age) q = operation old.up path (ops.AgeOut time age) q
    by (events.Client path test) q = client (is_path_only (term test)) refl q
      where
        client : (b : Bool) → is_path_only (term test) ≡ b → new ≡ cond b (record old { clients = old.clients ++ connected path test ∷ [] }) old → AllByRecursion P new.clients
        client true only e = to _ e (all_pushed P old.clients (connected path test) g (lasts.begins path test only))
        client false only e = to old e g
    by (events.Ask n) q = if_fits old.up _ q (all_changed P (asking old) lasts.asks n old.clients g)
    by (events.Receive n) q = to _ q (all_changed P receiving lasts.receives n old.clients g)
    by (events.Lose n) q = to _ q (all_changed P without_answer lasts.without n old.clients g)
