use Rattle.std.proofs.Common.{◌≡◌, []}
use Rattle.wm_world.specs.declared.other.Other.TheVariants.{Nothing}
use Rattle.wm_world.specs.Headline.{IsDrivenFrom}
use Rattle.wm_world.specs.Refinement.{AreHonest, Refines, disks_of_world}
use Rattle.wm_world.specs.Steps.{Leads}
use Rattle.wm_world.specs.Worlds.{World}
use Rattle.wm_world.proofs.driving.run_on.Given as goal

abbrev pub invariant-loop-event : goal.invariant-loop-event
invariant-loop-event g l = record {
  alone : (disks_of_world g.D.Disk l.fn.first).other ≡ Nothing → (disks_of_world g.D.Disk l.world).other ≡ Nothing;
  honest : AreHonest g.D.Disk (disks_of_world g.D.Disk l.world) → AreHonest g.D.Disk (disks_of_world g.D.Disk l.fn.first);
  driven : AreHonest g.D.Disk (disks_of_world g.D.Disk l.world) → (w : World) → Leads [] w → Refines g.D.Disk l.fn.first w
      → IsDrivenFrom g.D.Disk g.D.Crashed.plan (record { disks = disks_of_world g.D.Disk l.fn.first; world = w }) l.yielded l.world;
}
