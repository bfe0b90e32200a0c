-- A world that was driven by a list of events.
use Rattle.std.specs.Prelude.{◌≡◌, ℕ, true, List, [], Option}
use Rattle.std.specs.List.{AllByRecursion, FoldsTo}
use Rattle.wm_disk.specs.Calls.{EachLeft}
use Rattle.wm_disk.specs.Contents.{Only}
use Rattle.wm_disk.specs.declared.disk.Disk as disks
use Rattle.wm_checkpoint.specs.Meanings.{Means}
use Rattle.wm_checkpoint.specs.declared.layout.Slot.TheVariants.{A}
use Rattle.wm_clock.specs.Clocks.{is_clock}
use Rattle.wm_registry.specs.MachineLaws.{watches}
use Rattle.wm_registry.specs.Registry.{empty_registry}
use Rattle.wm_view.specs.Histories.{History, is_ready}
use Rattle.wm_since.specs.Answers.{clock_of}
use Rattle.wm_world.specs.declared.event.Event.{Event}
use Rattle.wm_world.specs.declared.world.World.{World as Running}
use Rattle.wm_world.specs.declared.other.Other.TheVariants.{Nothing, New}
use Rattle.wm_world.specs.Worlds.{World, nothing_yet, nothing_yet_of_two}
use Rattle.wm_world.specs.Steps.{Run, Step}
use Rattle.wm_world.specs.Laws.{ClientHolds, IsAmong}
use Rattle.wm_world.specs.Refinement.{AreHonest, Disks, IsBeside, KeepsPrefix, Refines, disks_of_world}
use Rattle.wm_world.specs.Passes.{Passes}
use Rattle.wm_registry.specs.declared.version.Version.{Version}
use Rattle.wm_registry.specs.declared.version.Version.TheVariants.{One, Two}

-- between two events: the disk in use with the one beside it, and a world
pub record Instant (D : Type 0) : Type 0 where
  pub disks : Disks D
  pub world : World

module _ {D : Type 0} (disk : disks.Ghosts D) where
  -- a disk as a format of the version that succeeded left it
  pub record IsFormattedIn (v : Version) (d : D) : Type 0 where
    pub formatted : Means (watches v) (disk.seen d) A 1 (empty_registry v) []
    pub durable : Only (disk.seen d) (disk.may_leave d)

  abbrev pub IsFormatted : D → Type 0
  IsFormatted d = IsFormattedIn Two d

  abbrev pub IsFormattedInVersion1 : D → Type 0
  IsFormattedInVersion1 d = IsFormattedIn One d

  -- What holds between any two events: every content that a crash may leave means the replay of what is kept and a prefix of what
  -- is in flight; each client has exactly the matching files of its root in the view at its last clock; and the numbers of each clock
  -- are those that a clock's text may have. Where a migration was cut, the old file may be retired beside a new one that means the same.
  pub record Holds (m : Instant D) : Type 0 where
    pub honest : AreHonest disk m.disks
    pub prefix : EachLeft disk m.disks.used (KeepsPrefix disk m.disks.other m.world)
    pub clients : AllByRecursion (ClientHolds m.world) m.world.clients
    pub clocks : (h : History) → IsAmong h m.world.histories → is_ready h ≡ true → is_clock (clock_of h) ≡ true
    pub faults : disk.failures m.disks.used ≡ m.world.faults
    pub beside : IsBeside disk m.disks.other m.world

  abbrev pub start : D → Instant D
  start d = record { disks = record { used = d; other = Nothing }; world = nothing_yet (disk.failures d) }

  abbrev pub start_of_two : D → D → Instant D
  start_of_two old new = record { disks = record { used = old; other = New new }; world = nothing_yet_of_two (disk.failures old) (disk.failures new) }

  -- how many calls of a disk still pass before each fails, where failures are planned
  module _ (plan : D → Option ℕ) where
    -- from one moment to the next
    pub record Goes (old : Instant D) (event : Event) (new : Instant D) : Type 0 where
      pub step : Step old.world event new.world
      pub passes : Passes disk plan event old.disks old.world new.disks new.world
      pub holds : Holds new

    -- The world that runs stands at the end of a run over just these events.
    pub record IsDrivenFrom (begin : Instant D) (events : List Event) (world : Running D) : Type 0 where
      pub first : Holds begin
      pub last : World
      pub steps : Run begin.world events last
      pub run : FoldsTo Goes begin events (record { disks = disks_of_world disk world; world = last })
      pub stands : Refines disk world last

    -- from nothing accepted on this disk
    abbrev pub IsDriven : D → List Event → Running D → Type 0
    IsDriven d events world = IsDrivenFrom (start d) events world

    -- from nothing accepted on the old disk, beside the new one
    abbrev pub IsDrivenOver : D → D → List Event → Running D → Type 0
    IsDrivenOver old new events world = IsDrivenFrom (start_of_two old new) events world
