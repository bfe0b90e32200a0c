-- A stop and a crash, and what they make of the world.
use Rattle.std.proofs.Common.{◌≡◌, ℕ, false, List, [], ◌++◌, map, take, drop, Option, refl, sym, ap, subst, ◌∙◌, append-nil, inl, inr, ◌⊎◌}
use Rattle.wm_disk.specs.declared.disk.Disk as disks
use Rattle.wm_disk.specs.Contents.{NoMore}
use Rattle.wm_registry.specs.declared.command.Command.{Command}
use Rattle.wm_world.specs.declared.world.World.{World as Running}
use Rattle.wm_world.specs.declared.other.Other.{Other}
use Rattle.wm_world.specs.declared.other.Other.TheVariants.{Nothing, New, Old}
use Rattle.wm_world.specs.declared.world.Server.TheVariants.{Down}
use Rattle.wm_world.specs.Worlds.{World, in_version, registry, replay, without_answer}
use Rattle.wm_world.specs.Steps.{Crashed, IsPrefix, IsReached, down}
use Rattle.wm_world.specs.Refinement.{AreHonest, IsBeside, IsRetiredBeside, IsOn, IsServer, KeepsPrefix, OtherIs, Simulates, Refines, disk_of_world, disks_of_server, disks_of_world}
use Rattle.wm_world.specs.Passes.{Halted, Halts, LosesPower, OnOther, PowerLost}
use Rattle.wm_world.proofs.Between.{take-drop}
use Rattle.wm_world.proofs.Others.{FailsNoMore, LeavesNoMore, beside_later, beside_same, moved_later, none_later, on_other_weaker, prefix_later, prefix_same}
use Rattle.wm_world.proofs.Reached.{settled_reached}
use Rattle.wm_registry.specs.Laws.{AcceptedInVersion2}
use Rattle.wm_world.proofs.Replays.{means_grown}
use Rattle.wm_store.specs.Meant.{MeansAfter}
use Rattle.wm_world.proofs.Calls.{on_of, whole}

module _ {D : Type 0} (disk : disks.Ghosts D) (plan : D → Option ℕ) where
  -- ---- going down

  module _ (old new : Running D) (d : D) (other : Other D) (server : new.server ≡ Down d other) (none : new.shown.views.items ≡ []) (said : new.shown.replies ≡ old.shown.replies)
      (lost : new.shown.clients.items ≡ map without_answer old.shown.clients.items) (honest : disk.honest d → disk.honest (disk_of_world disk old)) (others : OtherIs disk.honest other → OtherIs disk.honest (disks_of_world disk old).other)
      (faults : disk.failures d ≡ disk.failures (disk_of_world disk old)) (counts : FailsNoMore disk (disks_of_world disk old).other other) where
    now_honest : AreHonest disk (disks_of_world disk new) → AreHonest disk (record { used = d; other = other })
    now_honest h = subst (λ s. AreHonest disk (disks_of_server disk s)) server h

    was_honest : AreHonest disk (disks_of_world disk new) → AreHonest disk (disks_of_world disk old)
    was_honest h = (honest (now_honest h).0, others (now_honest h).1)

    stays_alone : (disks_of_world disk old).other ≡ Nothing → (disks_of_world disk new).other ≡ Nothing
    stays_alone e = ap (λ s. (disks_of_server disk s).other) server ∙ none_later disk (λ d e. disk.failures e ≡ disk.failures d) (disks_of_world disk old).other other counts e

    -- what the world knows of the other disk
    fallen_beside : (w v : World) → v.stage ≡ w.stage → v.version ≡ w.version → v.other_faults ≡ w.other_faults → LeavesNoMore disk (disks_of_world disk old).other other → Refines disk old w → IsBeside disk other v
    fallen_beside w v stage version count less s = beside_same disk other w v stage version count (beside_later disk (disks_of_world disk old).other other w less counts (on_of disk old.server old.shown.views.items w s.server).beside)

    stands_fallen : (w v : World) → v.up ≡ false → v.replies ≡ w.replies → v.clients ≡ map without_answer w.clients → v.faults ≡ w.faults → v.stage ≡ w.stage → v.version ≡ w.version → v.other_faults ≡ w.other_faults
        → LeavesNoMore disk (disks_of_world disk old).other other → ((c : List ℕ) → disk.may_leave d c → KeepsPrefix disk other v c) → Refines disk old w → Refines disk new v
    stands_fallen w v down replies clients count stage version other_count less prefix s = record {
      server = subst (λ x. IsServer disk x new.shown.views.items v) (sym server) (record {
        down = down;
        none = none;
        on = record { prefix = prefix; faults = faults ∙ (on_of disk old.server old.shown.views.items w s.server).faults ∙ sym count; beside = fallen_beside w v stage version other_count less s };
      });
      replies = ap (λ r. r.items) said ∙ s.replies ∙ sym replies;
      clients = lost ∙ ap (λ cs. map without_answer cs) s.clients ∙ sym clients;
    }

    pub stop_met : (disk.honest (disk_of_world disk old) → Halts disk plan (disk_of_world disk old) d) → (OtherIs disk.honest (disks_of_world disk old).other → OnOther (Halts disk plan) (disks_of_world disk old).other other)
        → Simulates disk (λ w v. v ≡ down w) (Halted disk plan) old new
    stop_met halts other_halts = record {
      honest = was_honest;
      alone = stays_alone;
      goes = λ h w reached s.
          let was : AreHonest disk (disks_of_world disk old) = was_honest h in
          let on : IsOn disk (disks_of_world disk old) w = on_of disk old.server old.shown.views.items w s.server in
          let beside : OnOther (Halts disk plan) (disks_of_world disk old).other other = other_halts was.1 in
          let less : LeavesNoMore disk (disks_of_world disk old).other other = on_other_weaker (Halts disk plan) (λ x y. NoMore (disk.may_leave x) (disk.may_leave y)) (λ x y g. g.1) (disks_of_world disk old).other other beside in (
            down w,
            refl,
            stands_fallen w (down w) refl refl refl refl refl refl refl less
                (λ c left. prefix_later disk (disks_of_world disk old).other other (down w) c less
                (prefix_same disk (disks_of_world disk old).other w (down w) c (record { kept = refl; pending = refl; slot = refl; version = refl; stage = refl; down = λ e. refl }) (on.prefix c ((halts was.0).1 c left)))) s,
            subst (λ x. Halted disk plan (disks_of_world disk old) w (disks_of_server disk x) (down w)) (sym server) (halts was.0, beside),
          );
    }

    pub crash_met : AcceptedInVersion2 → (disk.honest (disk_of_world disk old) → LosesPower disk plan (disk_of_world disk old) d) → (OtherIs disk.honest (disks_of_world disk old).other → OnOther (LosesPower disk plan) (disks_of_world disk old).other other)
        → Simulates disk Crashed (PowerLost disk plan) old new
    crash_met law loses other_loses = record {
      honest = was_honest;
      alone = stays_alone;
      goes = λ h w reached s. crashed h w reached s ((on_of disk old.server old.shown.views.items w s.server).prefix (disk.seen d) ((loses (was_honest h).0).0));
    }
      where
        durable : {x y : D} → LosesPower disk plan x y → NoMore (disk.may_leave x) (disk.may_leave y)
        durable {x = x} {y = y} g c left = subst (disk.may_leave x) (sym (g.1 c left)) g.0

        crashed : (h : AreHonest disk (disks_of_world disk new)) (w : World) → IsReached w → Refines disk old w → KeepsPrefix disk (disks_of_world disk old).other w (disk.seen d)
            → (v : World) × Crashed w v × Refines disk new v × PowerLost disk plan (disks_of_world disk old) w (disks_of_world disk new) v
        crashed h w reached s k = by k.means
          where
            was : AreHonest disk (disks_of_world disk old)
            was = was_honest h

            less : LeavesNoMore disk (disks_of_world disk old).other other
            less = on_other_weaker (LosesPower disk plan) (λ x y. NoMore (disk.may_leave x) (disk.may_leave y)) (λ x y g. durable {x = x} {y = y} g) (disks_of_world disk old).other other (other_loses was.1)

            -- what the crash left keeps just these commands
            to : (part : List Command) → IsPrefix part w.pending → (found : List Command) → found ≡ w.kept ++ part → KeepsPrefix disk other (record (down w) { kept = found; pending = [] }) (disk.seen d)
                → (v : World) × Crashed w v × Refines disk new v × PowerLost disk plan (disks_of_world disk old) w (disks_of_world disk new) v
            to part begins found is keeps =
                let v : World = record (down w) { kept = found; pending = [] } in (
                  v,
                  (found, (part, begins, is), refl),
                  stands_fallen w v refl refl refl refl refl refl refl less (λ c left. subst (λ x. KeepsPrefix disk other v x) (sym ((loses was.0).1 c left)) keeps) s,
                  subst (λ x. PowerLost disk plan (disks_of_world disk old) w (disks_of_server disk x) v) (sym server) (loses was.0, other_loses was.1),
                )

            by : MeansAfter (registry w) w.pending (disk.seen d) ⊎ IsRetiredBeside disk (disks_of_world disk old).other w (disk.seen d) → (v : World) × Crashed w v × Refines disk new v × PowerLost disk plan (disks_of_world disk old) w (disks_of_world disk new) v
            by (inl m) =
                let part : List Command = take m.count w.pending in
                to part (drop m.count w.pending, take-drop m.count w.pending) (w.kept ++ part) refl
                (record { means = inl (whole (in_version w.version (replay (w.kept ++ part))) (disk.seen d) (means_grown law w.version w.kept w.pending (settled_reached w reached).accepted (disk.seen d) m)); numbered = k.numbered })
            by (inr m) =
                let v : World = record (down w) { pending = [] } in
                to [] (w.pending, refl) w.kept (sym (append-nil w.kept))
                (record { means = inr (moved_later disk (disks_of_world disk old).other other v (disk.seen d) less (ended (disks_of_world disk old).other m)); numbered = k.numbered })
              where
                ended : (o : Other D) → IsRetiredBeside disk o w (disk.seen d) → IsRetiredBeside disk o (record (down w) { pending = [] }) (disk.seen d)
                ended Nothing moved = moved
                ended (Old old_disk) moved = moved
                ended (New new_disk) moved = record { stage = moved.stage; down = refl; none = refl; retired = moved.retired; holds = moved.holds }
