-- Calls of the disk in use, while the one beside it has none.
use Rattle.std.proofs.Common.{◌≡◌, inl, List, sym, ap, subst, ◌∙◌}
use Rattle.wm_disk.specs.Moments.{LeavesOnly}
use Rattle.wm_disk.specs.declared.disk.Disk as disks
use Rattle.wm_disk.specs.laws.Runs.{weaker}
use Rattle.wm_registry.specs.declared.command.Command.{Command}
use Rattle.wm_world.specs.declared.other.Other.{Other}
use Rattle.wm_world.specs.declared.other.Other.TheVariants.{Nothing}
use Rattle.wm_world.specs.declared.world.World.{World as Running}
use Rattle.wm_world.specs.Worlds.{World}
use Rattle.wm_world.specs.Refinement.{AreHonest, Disks, disks_of_world}
use Rattle.wm_world.specs.Passes.{KeepsBetween, LeftBetween}

module _ {D : Type 0} (disk : disks.Ghosts D) (old new : Running D) (d e : D) (other : Other D) (was : disks_of_world disk old ≡ record { used = d; other = other }) (is : disks_of_world disk new ≡ record { used = e; other = other }) where
  pub honest_now : AreHonest disk (disks_of_world disk new) → disk.honest e
  honest_now h = (subst (AreHonest disk) is h).0

  pub honest_calls : (disk.honest e → disk.honest d) → AreHonest disk (disks_of_world disk new) → AreHonest disk (disks_of_world disk old)
  honest_calls honest h = let k = subst (AreHonest disk) is h in subst (AreHonest disk) (sym was) (honest k.0, k.1)

  pub alone_calls : (disks_of_world disk old).other ≡ Nothing → (disks_of_world disk new).other ≡ Nothing
  alone_calls none = ap (λ (x : Disks D). x.other) is ∙ sym (ap (λ (x : Disks D). x.other) was) ∙ none

  -- a crash leaves what it may of the disk in use
  pub leaves_other : (w : World) (afterwards : List Command) → LeavesOnly disk.moment disk.left_since d e (LeftBetween disk other w afterwards)
      → LeavesOnly disk.moment disk.left_since (disks_of_world disk old).used (disks_of_world disk new).used (LeftBetween disk (disks_of_world disk old).other w afterwards) × ((disks_of_world disk new).other ≡ (disks_of_world disk old).other)
  leaves_other w afterwards run = (
    subst (λ (x : Disks D). LeavesOnly disk.moment disk.left_since x.used (disks_of_world disk new).used (LeftBetween disk x.other w afterwards)) (sym was)
        (subst (λ (x : Disks D). LeavesOnly disk.moment disk.left_since d x.used (LeftBetween disk other w afterwards)) (sym is) run),
    ap (λ (x : Disks D). x.other) is ∙ sym (ap (λ (x : Disks D). x.other) was),
  )

  pub leaves_calls : (w : World) (afterwards : List Command) → LeavesOnly disk.moment disk.left_since d e (KeepsBetween w afterwards)
      → LeavesOnly disk.moment disk.left_since (disks_of_world disk old).used (disks_of_world disk new).used (LeftBetween disk (disks_of_world disk old).other w afterwards) × ((disks_of_world disk new).other ≡ (disks_of_world disk old).other)
  leaves_calls w afterwards run = leaves_other w afterwards (weaker disk.moment disk.left_since d e (KeepsBetween w afterwards) (LeftBetween disk other w afterwards) run (λ c k. inl k))
