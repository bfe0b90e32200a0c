-- A world that is driven by one event more.
use Rattle.std.proofs.Common.{◌≡◌, inl, ℕ, Option, List, [], ◌∷◌, ◌++◌, refl, sym, subst}
use Rattle.std.specs.List.{FoldsTo}
use Rattle.wm_disk.specs.declared.disk.Disk as disks
use Rattle.wm_checkpoint.specs.Meanings.{Means}
use Rattle.wm_checkpoint.specs.declared.layout.Slot.TheVariants.{A}
use Rattle.wm_registry.specs.Laws.{NumbersInOrder, NumbersRise}
use Rattle.wm_registry.specs.MachineLaws.{watches}
use Rattle.wm_registry.specs.declared.version.Version.{Version}
use Rattle.wm_registry.specs.Registry.{empty_registry}
use Rattle.wm_view.specs.HistoryLaws.{TickInRange}
use Rattle.wm_since.specs.Laws.{AnswersApply}
use Rattle.wm_world.specs.declared.event.Event.{Event}
use Rattle.wm_world.specs.declared.world.World.{World as Running}
use Rattle.wm_world.specs.declared.other.Other.{Other}
use Rattle.wm_world.specs.declared.world.Server.TheVariants.{Down}
use Rattle.wm_world.specs.Worlds.{Stage, World, begun_on}
use Rattle.wm_world.specs.Steps.{IsReached, Leads, Run, Step}
use Rattle.wm_world.specs.Refinement.{AreHonest, IsBeside, IsServer, Simulates, Refines, disks_of_world}
use Rattle.wm_world.specs.Passes.{Passes}
use Rattle.wm_world.specs.Headline.{Goes, Holds, Instant, IsDrivenFrom, IsFormattedIn}
use Rattle.wm_world.proofs.Calls.{on_of}
use Rattle.wm_world.proofs.Owners.{clients_hold}
use Rattle.wm_world.proofs.Moments.{in_range}
use Rattle.wm_world.proofs.Shapes.{leads_on, runs_on}
use Rattle.wm_checkpoint.specs.laws.Numbering.{means_numbered}
use Rattle.wm_world.proofs.Stores.{none_yet}

folds_more : {V X : Type 0} (R : V → X → V → Type 0) (a b c : V) (xs : List X) (x : X) → FoldsTo R a xs b → R b x c → FoldsTo R a (xs ++ x ∷ []) c
folds_more R a b c [] x e r = (c, subst (λ v. R v x c) (sym e) r, refl)
folds_more R a b c (y ∷ ys) x (mid, first, rest) r = (mid, first, folds_more R mid b c ys x rest r)

module _ {D : Type 0} (disk : disks.Ghosts D) where
  -- a world that has just been made
  pub begins : (v : Version) (stage : Stage) (d : D) (other : Other D) (count : ℕ) (world : Running D) → world.server ≡ Down d other → world.shown.views.items ≡ [] → world.shown.replies.items ≡ [] → world.shown.clients.items ≡ [] → IsFormattedIn disk v d
      → IsBeside disk other (begun_on v stage (disk.failures d) count) → Refines disk world (begun_on v stage (disk.failures d) count)
  begins v stage d other count world server none replies clients f beside = record {
    server = subst (λ s. IsServer disk s world.shown.views.items (begun_on v stage (disk.failures d) count)) (sym server) (record {
      down = refl;
      none = none;
      on = record {
        prefix = λ c left.
            let m : Means (watches v) c A 1 (empty_registry v) [] = subst (λ x. Means (watches v) x A 1 (empty_registry v) []) (sym (f.durable c left)) f.formatted in
            record { means = inl (none_yet (empty_registry v) [] c (record { slot = A; number = 1; base = (empty_registry v); commands = []; means = m; is = refl })); numbered = means_numbered (watches v) c A 1 (empty_registry v) [] m };
        faults = refl;
        beside = beside;
      };
    });
    replies = replies;
    clients = clients;
  }

module _ {D : Type 0} (disk : disks.Ghosts D) (rising : NumbersRise) (ordered : NumbersInOrder) (ticks : TickInRange) (applies : AnswersApply) where
  holds : (world : Running D) (w : World) → AreHonest disk (disks_of_world disk world) → IsReached w → Refines disk world w → Holds disk (record { disks = disks_of_world disk world; world = w })
  holds world w h reached s =
      let on = on_of disk world.server world.shown.views.items w s.server in
      record {
        honest = h;
        prefix = on.prefix;
        clients = clients_hold applies w reached;
        clocks = λ g among ready. in_range rising ordered ticks w g reached among ready;
        faults = on.faults;
        beside = on.beside;
      }

  module _ (plan : D → Option ℕ) (begin : Running D) (w : World) (first : Leads [] w) where
    -- where it begins
    abbrev beginning : Instant D
    beginning = record { disks = disks_of_world disk begin; world = w }

    pub driven_none : AreHonest disk (disks_of_world disk begin) → Refines disk begin w → IsDrivenFrom disk plan beginning [] begin
    driven_none h s = record { first = holds begin w h ([], first) s; last = w; steps = refl; run = refl; stands = s }

    pub driven_more : (events : List Event) (event : Event) (old new : Running D) → AreHonest disk (disks_of_world disk new) → IsDrivenFrom disk plan beginning events old → Simulates disk (λ w v. Step w event v) (Passes disk plan event) old new
        → IsDrivenFrom disk plan beginning (events ++ event ∷ []) new
    driven_more events event old new h driven meets =
        let next = meets.goes h driven.last (events, leads_on [] w events driven.last first driven.steps) driven.stands in
        let steps : Run w (events ++ event ∷ []) next.0 = runs_on w events driven.last (event ∷ []) next.0 driven.steps (next.0, next.1, refl) in
        let reached : IsReached next.0 = (events ++ event ∷ [], leads_on [] w (events ++ event ∷ []) next.0 first steps) in
        record {
          first = driven.first;
          last = next.0;
          steps = steps;
          run = folds_more (Goes disk plan) beginning (record { disks = disks_of_world disk old; world = driven.last }) (record { disks = disks_of_world disk new; world = next.0 }) events event driven.run (record { step = next.1; passes = next.3; holds = holds new next.0 h reached next.2 });
          stands = next.2;
        }
