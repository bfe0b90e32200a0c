-- How the disk goes on within an event.
use Rattle.std.specs.Prelude.{◌≡◌, ◌≤◌, ◌+◌, ◌⊎◌, ℕ, true, false, List, [], ◌++◌, Option, Some, None, MatchBool}
use Rattle.wm_disk.specs.Contents.{NoMore, Only}
use Rattle.wm_disk.specs.Moments.{LeavesOnly}
use Rattle.wm_disk.specs.declared.disk.Disk as disks
use Rattle.wm_disk.specs.Counters.{max_counter}
use Rattle.wm_checkpoint.specs.Layout.{sizes_1}
use Rattle.wm_checkpoint.specs.Meanings.{IsRetired, Means}
use Rattle.wm_checkpoint.specs.declared.layout.Slot.{Slot}
use Rattle.wm_registry.specs.declared.command.Command.{Command}
use Rattle.wm_registry.specs.MachineLaws.{watches}
use Rattle.wm_world.specs.declared.event.Event.{Event}
use Rattle.wm_world.specs.declared.event.Event.TheVariants as events
use Rattle.wm_world.specs.declared.other.Other.{Other}
use Rattle.wm_world.specs.declared.other.Other.TheVariants.{Nothing, New, Old}
use Rattle.wm_world.specs.Worlds.{World, in_version, registry, replay}
use Rattle.wm_world.specs.Steps.{IsPrefix, OpenCutEarly, OpenCutLate, OpenSpent, Opened, fits_migration}
use Rattle.wm_world.specs.Refinement.{Disks, IsRetiredBeside}
use Rattle.wm_store.specs.Meant.{MeansRegistry}
use Rattle.wm_store.specs.Migrations.{MovesOnly, WritesNeither}

-- A content that a crash within an event may leave: it means the replay of what was kept and a prefix of what was in flight, or of
-- what is kept and in flight afterwards.
pub record KeepsBetween (w : World) (afterwards : List Command) (content : List ℕ) : Type 0 where
  pub found : List Command
  pub stays : IsPrefix w.kept found
  pub known : IsPrefix found (w.kept ++ w.pending) ⊎ IsPrefix found afterwards
  pub means : MeansRegistry (in_version w.version (replay found)) content

-- the disk beside goes on so, where there is one, and keeps its part
abbrev pub OnOther : {D : Type 0} → (D → D → Type 0) → Other D → Other D → Type 0
OnOther R Nothing Nothing = Unit {0}
OnOther R Nothing (New e) = ⊥
OnOther R Nothing (Old e) = ⊥
OnOther R (New d) Nothing = ⊥
OnOther R (New d) (New e) = R d e
OnOther R (New d) (Old e) = ⊥
OnOther R (Old d) Nothing = ⊥
OnOther R (Old d) (New e) = ⊥
OnOther R (Old d) (Old e) = R d e

-- both disks go on so
abbrev pub OnBoth : {D : Type 0} → (D → D → Type 0) → Disks D → Disks D → Type 0
OnBoth R d e = R d.used e.used × OnOther R d.other e.other

-- from the disks d and the world w to the disks e and the world v
module _ {D : Type 0} (disk : disks.Ghosts D) where
  -- what a crash in between may leave of the disk in use: what keeps the prefix, or a file that was retired before
  abbrev pub LeftBetween : Other D → World → List Command → List ℕ → Type 0
  LeftBetween other w afterwards content = KeepsBetween w afterwards content ⊎ IsRetiredBeside disk other w content

  -- a crash at any moment in between leaves nothing else, and the disk beside has no call
  abbrev pub Leaves : Disks D → World → Disks D → World → Type 0
  Leaves d w e v = LeavesOnly disk.moment disk.left_since d.used e.used (LeftBetween d.other w (v.kept ++ v.pending)) × (e.other ≡ d.other)

  -- a start
  pub record Opens (d : Disks D) (w : World) (e : Disks D) (v : World) : Type 0 where
    pub leaves : Leaves d w e v
    -- The server comes up, or the device failed, or a counter is spent; else the file in use is retired.
    pub retired : w.up ≡ false → Opened w v ⊎ OpenCutEarly w v ⊎ OpenCutLate w v ⊎ OpenSpent w v ⊎ IsRetired sizes_1 (disk.seen d.used)

  -- A migration, of a disk that is old afterwards into the one beside it, which is new afterwards: a crash at any moment leaves what one
  -- before might have left of each; or, from the moment on at which old was read, an old file that means the registry after what is kept
  -- then, or a retired one and a new one that means it.
  pub record Migrates (d : Disks D) (w : World) (e : Disks D) (v : World) : Type 0 where
    pub new_before : D
    pub beside : d.other ≡ New new_before
    pub old : D
    pub new : D
    pub disks : (e ≡ record { used = new; other = Old old }) ⊎ (e ≡ record { used = old; other = New new })
    pub leaves : WritesNeither disk d.used new_before old new ⊎ ((m : MovesOnly disk d.used old new) × (m.registry ≡ in_version w.version (replay v.kept)))

  -- one that doesn't fit leaves both disks as they are
  abbrev pub MigratesIfFit : Disks D → World → Disks D → World → Type 0
  MigratesIfFit d w e v = MatchBool (fits_migration w) (Migrates d w e v) (e ≡ d)

  -- The slot's number on the disk is one higher than before, and the registry stands in that slot with no command behind it.
  pub record Raises (d : D) (w : World) (e : D) : Type 0 where
    pub slot : Slot
    pub number : ℕ
    pub before : (c : List ℕ) → disk.may_leave d c → (m : MeansRegistry (registry w) c) × (m.number ≡ number)
    pub afterwards : (c : List ℕ) → disk.may_leave e c → Means (watches (registry w).version) c slot (number + 1) (registry w) []

  -- a checkpoint
  pub record Switches (d : Disks D) (w : World) (e : Disks D) (v : World) : Type 0 where
    pub leaves : Leaves d w e v
    -- It is done where the server stays up and the bound rises, and else the number is spent.
    pub done : v.up ≡ true → v.slot ≡ w.slot + 1 → Raises d.used w e.used
    pub spent : v.up ≡ true → v.slot ≡ w.slot → (c : List ℕ) → disk.may_leave d.used c → (m : MeansRegistry (registry w) c) × (max_counter ≤ m.number)

  -- how many calls of a disk still pass before each fails, where failures are planned
  module _ (plan : D → Option ℕ) where
    -- a plan of failures: the disk reads as before
    abbrev pub IsArmed : ℕ → D → D → Type 0
    IsArmed calls d e = (disk.seen e ≡ disk.seen d) × NoMore (disk.may_leave d) (disk.may_leave e) × (plan e ≡ Some calls)

    -- of the disk in use, or of the one beside it
    abbrev pub Armed : ℕ → Disks D → World → Disks D → World → Type 0
    Armed calls d w e v = IsArmed calls d.used e.used × (e.other ≡ d.other)

    abbrev pub OtherArmed : ℕ → Disks D → World → Disks D → World → Type 0
    OtherArmed calls d w e v = (e.used ≡ d.used) × OnOther (IsArmed calls) d.other e.other

    -- a loss of power: what it left is there, and durable, and no failure is planned
    abbrev pub LosesPower : D → D → Type 0
    LosesPower d e = disk.may_leave d (disk.seen e) × Only (disk.seen e) (disk.may_leave e) × (plan e ≡ None)

    abbrev pub PowerLost : Disks D → World → Disks D → World → Type 0
    PowerLost d w e v = OnBoth LosesPower d e

    -- a stop: the disk reads as before, and no failure is planned
    abbrev pub Halts : D → D → Type 0
    Halts d e = (disk.seen e ≡ disk.seen d) × NoMore (disk.may_leave d) (disk.may_leave e) × (plan e ≡ None)

    abbrev pub Halted : Disks D → World → Disks D → World → Type 0
    Halted d w e v = OnBoth Halts d e

    abbrev pub Passes : Event → Disks D → World → Disks D → World → Type 0
    Passes events.Open d w e v = Opens d w e v
    Passes events.Checkpoint d w e v = Switches d w e v
    Passes events.Migrate d w e v = MigratesIfFit d w e v
    Passes (events.Arm calls) d w e v = Armed calls d w e v
    Passes (events.ArmOther calls) d w e v = OtherArmed calls d w e v
    Passes events.Crash d w e v = PowerLost d w e v
    Passes events.Stop d w e v = Halted d w e v
    Passes _ d w e v = Leaves d w e v
