-- What each step leaves of the commands, and how it makes the histories grow.
use Rattle.std.proofs.Common.{◌≡◌, ◌⊎◌, inl, inr, ℕ, ◌+◌, ◌<◌, ◌≤◌, Bool, true, false, cond, not, ◌&&◌, List, [], ◌∷◌, ◌++◌, length, nat_le, Option, Some, None, refl, sym, ap, subst, ◌∙◌, arith, true≢false, append_assoc, append-nil, MatchBool}
use Rattle.wm_names.specs.Paths.{Path}
use Rattle.wm_registry.specs.declared.command.Command.{Command}
use Rattle.wm_registry.specs.declared.command.Command.TheVariants.{Begin}
use Rattle.wm_registry.specs.declared.root.Root.{Root}
use Rattle.wm_registry.specs.Registry.{changes, empty_registry}
use Rattle.wm_registry.specs.Roots.{State, root_at}
use Rattle.std.specs.Option.{option_map_or}
use Rattle.wm_expr.specs.Meanings.{is_path_only}
use Rattle.wm_expr.specs.Views.{term}
use Rattle.wm_store.specs.Batches.{accepted_of}
use Rattle.wm_view.specs.Histories.{History, after_operation}
use Rattle.wm_view.specs.declared.op.Op.{Op}
use Rattle.wm_view.specs.declared.op.Op.TheVariants as ops
use Rattle.wm_world.specs.declared.event.Event.{Event}
use Rattle.wm_world.specs.declared.event.Event.TheVariants as events
use Rattle.wm_world.specs.Worlds.{Alone, Before, Between, After, Stage, World, at_first, begun_on, nothing_yet, nothing_yet_of_two, begun_all, begun_between, in_version, is_of, registry, replay}
use Rattle.wm_world.specs.Steps.{BatchCut, BatchDone, Checkpointed, Cut, Leads, MigrateEnds, OpenEnds, Opened, Run, Step, begin_on, down, is_to_migrate, operated, reopened}
use Rattle.wm_world.specs.Laws.{StaysAlone}
use Rattle.wm_world.proofs.Growing.{Grows, extends_after, grows_append, grows_at, grows_same, grows_then}
use Rattle.wm_world.proofs.Replays.{Accepted, accepted_batch, began, replay_more}
use Rattle.wm_registry.specs.declared.version.Version.{Version}
use Rattle.wm_registry.specs.declared.version.Version.TheVariants.{One, Two}

-- the server was up before, or it has just been opened
abbrev pub IsUp : World → World → Type 0
IsUp old new = ((old.up ≡ true) × (new.pending ≡ old.pending)) ⊎ ((new.pending ≡ []) × (0 < (registry new).incarnation))

-- the same, one that has gone on, those of a batch, or those of a start
abbrev pub IsGrown : World → World → Type 0
IsGrown old new =
    (new.histories ≡ old.histories)
    ⊎ ((test : History → Bool) × (op : Op) × (new.histories ≡ at_first test (λ h. after_operation h op) old.histories))
    ⊎ ((old.up ≡ true) × (new.histories ≡ old.histories ++ begun_between (registry old) (registry new)))
    ⊎ ((part : List Command) × ((replay (old.kept ++ part)).incarnation < (registry new).incarnation) × (new.histories ≡ old.histories ++ begun_all (registry new)))

-- what is in flight stays so, or the server is up, or it was accepted
abbrev pub IsFlight : World → World → Type 0
IsFlight old new = ((new.kept ≡ old.kept) × (new.pending ≡ old.pending) × (new.version ≡ old.version)) ⊎ (new.up ≡ true) ⊎ Accepted (registry new) new.pending

pub record Shape (old new : World) : Type 0 where
  pub more : List Command
  pub kept : new.kept ≡ old.kept ++ more
  pub histories : IsGrown old new
  pub up : new.up ≡ true → IsUp old new
  pub flight : IsFlight old new
  pub slot : old.slot ≤ new.slot
  pub alone : old.stage ≡ Alone → (new.stage ≡ Alone) × (new.version ≡ old.version)

like : (old v w : World) → w ≡ v → Shape old v → Shape old w
like old v w e h = subst (λ u. Shape old u) (sym e) h

-- the same commands and histories, and no less up
as_it_was : (old v w : World) → w ≡ v → v.kept ≡ old.kept → v.histories ≡ old.histories → (v.up ≡ true → IsUp old v) → IsFlight old v → old.slot ≤ v.slot → v.stage ≡ old.stage → v.version ≡ old.version → Shape old w
as_it_was old v w e k h up flight slot stage version =
    like old v w e (record { more = []; kept = k ∙ sym (append-nil old.kept); histories = inl h; up = up; flight = flight; slot = slot; alone = λ a. (stage ∙ a, version) })

stays_up : (old v : World) → v.up ≡ old.up → v.pending ≡ old.pending → v.up ≡ true → IsUp old v
stays_up old v u p t = inl (sym u ∙ t, p)

same : (old new : World) → new ≡ old → Shape old new
same old new e = as_it_was old old new e refl refl (stays_up old old refl refl) (inl (refl, refl, refl)) (omega arith) refl refl

not_up : (old v : World) → v.up ≡ false → v.up ≡ true → IsUp old v
not_up old v f t = absurd (true≢false (sym t ∙ f))

-- ---- views

one_goes_on : (old : World) (test : History → Bool) (op : Op) → Shape old (record old { histories = at_first test (λ h. after_operation h op) old.histories })
one_goes_on old test op = record {
  more = [];
  kept = sym (append-nil old.kept);
  histories = inr (inl (test, op, refl));
  up = stays_up old (record old { histories = at_first test (λ h. after_operation h op) old.histories }) refl refl;
  flight = inl (refl, refl, refl);
  slot = omega arith;
  alone = λ a. (a, refl);
}

operation : (old new : World) (path : Path) (op : Op) → new ≡ cond old.up (operated path op old) old → Shape old new
operation old new path op e = like old _ new e (either old.up)
  where
    by : (o : Option Root) → Shape old (option_map_or (λ root. record old { histories = at_first (is_of (registry old).incarnation root.number) (λ h. after_operation h op) old.histories }) o old)
    by None = same old old refl
    by (Some root) = one_goes_on old (is_of (registry old).incarnation root.number) op

    either : (b : Bool) → Shape old (cond b (operated path op old) old)
    either true = by (root_at path (registry old))
    either false = same old old refl

-- ---- commands

batch_done : (old : World) (commands : List Command) (new : World) → old.up ≡ true → BatchDone old commands new → Shape old new
batch_done old commands new up (replies, answered, long, raise, e) =
    like old _ new e (record { more = accepted_of commands replies; kept = refl; histories = inr (inr (inl (up, refl))); up = λ t. inl (up, refl); flight = inr (inl up); slot = raise.0; alone = λ a. (a, refl) })

cut : (by : ℕ) (old : World) (commands : List Command) (new : World) → Accepted (registry old) commands → Cut by old commands new → Shape old new
cut by old commands new accepted (rose, later, raise, e) = let v : World = record (down old) { pending = commands; faults = new.faults; slot = new.slot } in as_it_was old v new e refl refl (not_up old v refl) (inr (inr accepted)) raise.0 refl refl

batch : (old : World) (commands : List Command) (new : World) → MatchBool (old.up && nat_le (length commands) 64) (BatchDone old commands new ⊎ BatchCut old commands new) (new ≡ old) → Shape old new
batch old commands new = either old.up refl (nat_le (length commands) 64)
  where
    either : (u : Bool) → old.up ≡ u → (b : Bool) → MatchBool (u && b) (BatchDone old commands new ⊎ BatchCut old commands new) (new ≡ old) → Shape old new
    either true up true (inl d) = batch_done old commands new up d
    either true up true (inr (replies, answered, some, c)) = cut (length commands) old (accepted_of commands replies) new (accepted_batch (registry old).version new.slot 0 (registry old) commands replies answered) c
    either true up false e = same old new e
    either false up b e = same old new e

checkpoint : (old new : World) → MatchBool old.up (Checkpointed old new ⊎ Cut 1 old [] new) (new ≡ old) → Shape old new
checkpoint old new = either old.up
  where
    either : (u : Bool) → MatchBool u (Checkpointed old new ⊎ Cut 1 old [] new) (new ≡ old) → Shape old new
    either true (inl (inl e)) = as_it_was old (record old { slot = old.slot + 1 }) new e refl refl (stays_up old (record old { slot = old.slot + 1 }) refl refl) (inl (refl, refl, refl)) (omega arith) refl refl
    either true (inl (inr (spent, e))) = same old new e
    either true (inr c) = cut 1 old [] new tt c
    either false e = same old new e

-- ---- a start

opened : (old new : World) → Opened old new → Shape old new
opened old new (found, (part, begins, is), raise, accepts, e) =
    let more : List Command = part ++ Begin ∷ [] in
    let whole : found ++ Begin ∷ [] ≡ old.kept ++ more = ap (λ cs. cs ++ Begin ∷ []) is ∙ append_assoc old.kept part (Begin ∷ []) in
    let next : (replay (found ++ Begin ∷ [])).incarnation ≡ (replay found).incarnation + 1 =
    ap (λ (s : State). s.incarnation) (replay_more (empty_registry Two) found (Begin ∷ [])) ∙ began (replay found) accepts in
    let later : (replay (old.kept ++ part)).incarnation < (replay (found ++ Begin ∷ [])).incarnation =
    subst (λ cs. (replay cs).incarnation < (replay (found ++ Begin ∷ [])).incarnation) is (omega (arith, next)) in
    like old _ new e (record {
      more = more;
      kept = whole;
      histories = inr (inr (inr (part, later, refl)));
      up = λ t. inr (refl, omega (arith, next));
      flight = inr (inl refl);
      slot = raise.0;
      alone = λ a. (ap reopened a, refl);
    })

-- the Begin of a start is in flight only where it is accepted
pub begin_accepted : (v : Version) (found : List Command) → Accepted (in_version v (replay found)) (begin_on found)
begin_accepted v found = by (changes (replay found) Begin) refl
  where
    by : (b : Bool) → changes (replay found) Begin ≡ b → Accepted (in_version v (replay found)) (cond b (Begin ∷ []) [])
    by true e = (e, tt)
    by false e = tt

-- what is kept by then is known, while the server stays down
found_down : (old v w : World) → w ≡ v → (part : List Command) → v.kept ≡ old.kept ++ part → v.histories ≡ old.histories → v.up ≡ false → Accepted (registry v) v.pending → old.slot ≤ v.slot
    → (old.stage ≡ Alone → (v.stage ≡ Alone) × (v.version ≡ old.version)) → Shape old w
found_down old v w e part kept histories is_down accepted slot alone =
    like old v w e (record { more = part; kept = kept; histories = inl histories; up = not_up old v is_down; flight = inr (inr accepted); slot = slot; alone = alone })

opening : (old new : World) → old.up ≡ false → OpenEnds old new → Shape old new
opening old new is_down (inl o) = opened old new o
opening old new is_down (inr (inl (rose, later, e))) = let v : World = record old { faults = new.faults } in as_it_was old v new e refl refl (not_up old v is_down) (inl (refl, refl, refl)) (omega arith) refl refl
opening old new is_down (inr (inr (inl (rose, later, raise, (found, (part, begins, is), e))))) =
    found_down old (record old { stage = reopened old.stage; kept = found; pending = begin_on found; faults = new.faults; slot = new.slot }) new e part is refl is_down (begin_accepted old.version found) raise.0 (λ a. (ap reopened a, refl))
opening old new is_down (inr (inr (inr (inl (raise, (found, (part, begins, is), why, e)))))) =
    found_down old (record old { stage = reopened old.stage; kept = found; pending = []; slot = new.slot }) new e part is refl is_down tt raise.0 (λ a. (ap reopened a, refl))
opening old new is_down (inr (inr (inr (inr (stage, e))))) = same old new e

start : (old new : World) → MatchBool old.up (new ≡ old) (OpenEnds old new) → Shape old new
start old new = either old.up refl
  where
    either : (u : Bool) → old.up ≡ u → MatchBool u (new ≡ old) (OpenEnds old new) → Shape old new
    either true up e = same old new e
    either false down o = opening old new down o

-- ---- a migration

migration : (old new : World) → old.up ≡ false → is_to_migrate old.stage ≡ true → MigrateEnds old new → Shape old new
migration old new is_down fits m = by m
  where
    not_alone : (v : World) → old.stage ≡ Alone → (v.stage ≡ Alone) × (v.version ≡ old.version)
    not_alone v a = absurd (true≢false (sym fits ∙ ap is_to_migrate a))

    by : MigrateEnds old new → Shape old new
    by (inl (found, (part, begins, is), e)) =
        let v : World = record old { version = Two; stage = After; kept = found; pending = []; faults = old.other_faults; other_faults = old.faults } in found_down old v new e part is refl is_down tt (omega arith) (not_alone v)
    by (inr (inl (rose, e))) =
        let v : World = record old { faults = new.faults; other_faults = new.other_faults } in as_it_was old v new e refl refl (not_up old v is_down) (inl (refl, refl, refl)) (omega arith) refl refl
    by (inr (inr (rose, (found, (part, begins, is), e)))) =
        let v : World = record old { stage = Between; kept = found; pending = []; faults = new.faults; other_faults = new.other_faults } in found_down old v new e part is refl is_down tt (omega arith) (not_alone v)

migrate : (old new : World) → MatchBool (not old.up && is_to_migrate old.stage) (MigrateEnds old new) (new ≡ old) → Shape old new
migrate old new = either old.up refl (is_to_migrate old.stage) refl
  where
    either : (u : Bool) → old.up ≡ u → (t : Bool) → is_to_migrate old.stage ≡ t → MatchBool (not u && t) (MigrateEnds old new) (new ≡ old) → Shape old new
    either true up t fits e = same old new e
    either false down true fits m = migration old new down fits m
    either false down false fits e = same old new e

-- ---- clients: they touch neither commands nor histories

only_clients : (old new : World) (b : Bool) (v : World) → new ≡ cond b v old → v.kept ≡ old.kept → v.histories ≡ old.histories → v.up ≡ old.up → v.pending ≡ old.pending → v.slot ≡ old.slot → v.stage ≡ old.stage → v.version ≡ old.version → Shape old new
only_clients old new true v e k h u p slot stage version = as_it_was old v new e k h (stays_up old v u p) (inl (k, p, version)) (omega (arith, slot)) stage version
only_clients old new false v e k h u p slot stage version = same old new e

pub shape : (old : World) (event : Event) (new : World) → Step old event new → Shape old new
shape old (events.Commands commands) new s = batch old commands.items new s
shape old events.Checkpoint new s = checkpoint old new s
shape old events.Open new s = start old new s
shape old events.Migrate new s = migrate old new s
shape old (events.Arm calls) new s = same old new s
shape old (events.ArmOther calls) new s = same old new s
shape old events.Crash new (found, (part, begins, is), e) = found_down old (record (down old) { kept = found; pending = [] }) new e part is refl refl tt (omega arith) (λ a. (a, refl))
shape old events.Stop new s = as_it_was old (down old) new s refl refl (not_up old (down old) refl) (inl (refl, refl, refl)) (omega arith) refl refl
shape old (events.Observe path moment pairs) new s = operation old new path (ops.Observe moment pairs) s
shape old (events.Recrawl path moment begun_at found) new s = operation old new path (ops.Recrawl moment begun_at found) s
shape old (events.AgeOut path time age) new s = operation old new path (ops.AgeOut time age) s
shape old (events.Client path test) new s = only_clients old new (is_path_only (term test)) _ s refl refl refl refl refl refl refl
shape old (events.Ask n) new s = only_clients old new old.up _ s refl refl refl refl refl refl refl
shape old (events.Receive n) new s = only_clients old new true _ s refl refl refl refl refl refl refl
shape old (events.Lose n) new s = only_clients old new true _ s refl refl refl refl refl refl refl

-- ---- what grows

pub grows_shape : (old new : World) → Shape old new → Grows old.histories new.histories
grows_shape old new s = by s.histories
  where
    to : (hs : List History) → new.histories ≡ hs → Grows old.histories hs → Grows old.histories new.histories
    to hs e g = subst (λ ks. Grows old.histories ks) (sym e) g

    by : IsGrown old new → Grows old.histories new.histories
    by (inl e) = to old.histories e (grows_same old.histories)
    by (inr (inl (test, op, e))) = to _ e (grows_at test (λ h. after_operation h op) (λ h. extends_after h op) old.histories)
    by (inr (inr (inl (up, e)))) = to _ e (grows_append old.histories (begun_between (registry old) (registry new)))
    by (inr (inr (inr (part, later, e)))) = to _ e (grows_append old.histories (begun_all (registry new)))

pub grows_run : (old : World) (events : List Event) (new : World) → Run old events new → Grows old.histories new.histories
grows_run old [] new e = subst (λ (w : World). Grows old.histories w.histories) e (grows_same old.histories)
grows_run old (event ∷ events) new (mid, step, run) =
    grows_then old.histories mid.histories new.histories (grows_shape old mid (shape old event mid step)) (grows_run mid events new run)

pub runs_on : (a : World) (es : List Event) (b : World) (fs : List Event) (c : World) → Run a es b → Run b fs c → Run a (es ++ fs) c
runs_on a [] b fs c e r = subst (λ w. Run w fs c) (sym e) r
runs_on a (x ∷ es) b fs c (mid, step, rest) r = (mid, step, runs_on mid es b fs c rest r)

pub stays_alone : StaysAlone
stays_alone old new [] e alone = (ap (λ (w : World). w.stage) (sym e) ∙ alone, ap (λ (w : World). w.version) (sym e))
stays_alone old new (event ∷ events) (mid, step, run) alone =
    let here = (shape old event mid step).alone alone in
    let later = stays_alone mid new events run here.0 in
    (later.0, later.1 ∙ here.1)

-- what holds where nothing is accepted yet, and goes on
pub all_reached : (P : World → Type 0) → ((v : Version) (stage : Stage) (faults other_faults : ℕ) → P (begun_on v stage faults other_faults)) → ((old : World) (events : List Event) (new : World) → P old → Run old events new → P new) → (events : List Event) (w : World) → Leads events w → P w
all_reached P first goes events w (inl (faults, run)) = goes (nothing_yet faults) events w (first Two Alone faults 0) run
all_reached P first goes events w (inr (faults, other, run)) = goes (nothing_yet_of_two faults other) events w (first One Before faults other) run

pub leads_on : (es : List Event) (b : World) (fs : List Event) (c : World) → Leads es b → Run b fs c → Leads (es ++ fs) c
leads_on es b fs c (inl (faults, run)) r = inl (faults, runs_on (nothing_yet faults) es b fs c run r)
leads_on es b fs c (inr (faults, other, run)) r = inr (faults, other, runs_on (nothing_yet_of_two faults other) es b fs c run r)
