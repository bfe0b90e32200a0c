-- What `migrate` does of its two paths: its calls of the system, what it leaves of the two files, its status, and what it shows and tells.
use Rattle.std.specs.Prelude.{◌≡◌, ◌⊎◌, true, false, Bool, ℕ, List, Option, Some, None, codes}
use Rattle.std.specs.Io.KnownBytes.{Appends}
use Rattle.wm_disk.specs.Contents.{Rose}
use Rattle.wm_disk.specs.declared.disk.Disk as disks
use Rattle.wm_disk.specs.declared.refusal.Refusal.{Refusal}
use Rattle.wm_disk.specs.declared.refusal.Refusal.TheVariants as refusals
use Rattle.wm_checkpoint.specs.Layout.{sizes_1}
use Rattle.wm_checkpoint.specs.Meanings.{IsDamaged, IsRetired}
use Rattle.wm_registry.specs.MachineLaws.{watches}
use Rattle.wm_registry.specs.Roots.{State}
use Rattle.wm_registry.specs.declared.version.Version.TheVariants.{One}
use Rattle.wm_store.specs.Meant.{MeansRegistry}
use Rattle.wm_store.specs.Migrations.{HaveNoRegistry, IsMigrated, MigratesOnly, WritesNeither}
use Rattle.wm_store.specs.Openings.{WritesNothing}
use Rattle.wm_server.specs.program.Programs.{IsTold}
use Rattle.wm_session.specs.session.Streams.{writer_failed, writer_of}
use Rattle.wm_session.specs.declared.session.output.Output.{Output}
use Rattle.wm_server.specs.declared.program.system.System as systems

-- What the old file was found to be: it is retired, or it means a registry of version 1.
abbrev pub IsFoundRetired : Bool → List ℕ → Type 0
IsFoundRetired true content = IsRetired sizes_1 content
IsFoundRetired false content = (s : State) × (s.version ≡ One) × MeansRegistry s content

module _ {D : Type 0} (disk : disks.Ghosts D) where
  -- the old file was looked at, and nothing was written to it
  abbrev pub OnlyLooks : D → D → Type 0
  OnlyLooks before after = disk.honest after → (disk.seen after ≡ disk.seen before) × WritesNothing disk before after

  -- Why a look at the old file is refused so: the device failed; or the file is damaged in version 1; or memory ran out.
  abbrev pub LookRefused : Refusal → D → D → Type 0
  LookRefused refusals.DeviceFailed before after = Rose (disk.failures before) (disk.failures after)
  LookRefused refusals.Damaged before after = disk.honest after → IsDamaged (watches One) (disk.seen before)
  LookRefused refusals.NoMemory before after = Unit {0}
  LookRefused _ before after = ⊥

  -- the registry of the old file stands in the new one, and the old one is retired
  abbrev pub AreMoved : (old new old_after new_after : D) → Type 0
  AreMoved old new old_after new_after = disk.honest old_after → disk.honest new_after → IsMigrated disk old new old_after new_after

  -- what a crash at any moment of the move leaves
  abbrev pub AreSafe : (old new old_after new_after : D) → Type 0
  AreSafe old new old_after new_after = disk.honest old_after → disk.honest new_after → MigratesOnly disk old new old_after new_after

  -- Why a move is refused so: a device failed; or there is no registry to move; or memory ran out. But for the first nothing was written.
  abbrev pub MoveRefused : Refusal → (old new old_after new_after : D) → Type 0
  MoveRefused refusals.DeviceFailed old new old_after new_after = Rose (disk.failures old) (disk.failures old_after) ⊎ Rose (disk.failures new) (disk.failures new_after)
  MoveRefused refusals.Damaged old new old_after new_after = disk.honest old_after → disk.honest new_after →
      HaveNoRegistry (disk.seen old) (disk.seen new) × WritesNeither disk old new old_after new_after
  MoveRefused refusals.NoMemory old new old_after new_after = disk.honest old_after → disk.honest new_after → WritesNeither disk old new old_after new_after
  MoveRefused _ old new old_after new_after = ⊥

  -- the registry was moved, and that was shown
  abbrev pub IsShown : {W : Type 0} → (W → Option (List ℕ)) → (held holds : Output W) → (old new old_after new_after : D) → Type 0
  IsShown contents held holds old new old_after new_after = AreMoved old new old_after new_after × Appends (contents (writer_of held)) (contents (writer_of holds)) (codes "migrated\n")

  -- it was refused, and nothing was shown; or it was moved, and the writer failed
  abbrev pub IsUnshown : {W : Type 0} → Refusal → (held holds : Output W) → (old new old_after new_after : D) → Type 0
  IsUnshown refusal held holds old new old_after new_after = ((holds ≡ held) × MoveRefused refusal old new old_after new_after)
      ⊎ ((refusal ≡ refusals.DeviceFailed) × (writer_failed holds ≡ true) × AreMoved old new old_after new_after)

module _ {S D : Type 0} (disk : disks.Ghosts D) (system : systems.Ghosts S D) where
  -- If the old file is retired the new one is opened, and never made; else it is opened or made.
  abbrev pub TakesNew : Bool → S → List ℕ → Option D → S → Type 0
  TakesNew true old path answer new = system.opens old path answer new
  TakesNew false old path answer new = system.readies old path answer new

  -- The old file was looked at. Then the new file of the path was taken, and closed behind a move that has this property.
  pub record Moves (path : List ℕ) (old new : S) (before after : D) (Moved : (old new old_after new_after : D) → Type 0) : Type 0 where
    pub retired : Bool
    pub looked : D
    pub found : disk.honest looked → IsFoundRetired retired (disk.seen before)
    pub looks : OnlyLooks disk before looked
    pub begun : S
    pub new_before : D
    pub new_after : D
    pub taken : TakesNew retired old path (Some new_before) begun
    pub closed : system.closes begun new_after new
    pub safe : AreSafe disk looked new_before after new_after
    pub moved : Moved looked new_before after new_after

  -- The old file was looked at, but the new one couldn't be taken.
  pub record TakesNone (path : List ℕ) (old new : S) (before after : D) : Type 0 where
    pub retired : Bool
    pub found : disk.honest after → IsFoundRetired retired (disk.seen before)
    pub looks : OnlyLooks disk before after
    pub taken : TakesNew retired old path None new

  -- Why nothing was moved into the file of the path: the look at the old file was refused, and the new one was neither opened nor made; or it
  -- couldn't be taken; or the move was refused, or couldn't be shown.
  abbrev pub MoveFails : {W : Type 0} → Refusal → List ℕ → S → S → D → D → (held holds : Output W) → Type 0
  MoveFails refusal path old new before after held holds = ((new ≡ old) × (holds ≡ held) × OnlyLooks disk before after × LookRefused disk refusal before after)
      ⊎ (((refusal ≡ refusals.DeviceFailed) × (holds ≡ held) × TakesNone path old new before after)
      ⊎ Moves path old new before after (IsUnshown disk refusal held holds))

  -- The old file was opened, and closed with this between the two.
  pub record Over (path : List ℕ) (old new : S) (Between : S → S → D → D → Type 0) : Type 0 where
    pub begun : S
    pub left : S
    pub before : D
    pub after : D
    pub opened : system.opens old path (Some before) begun
    pub between : Between begun left before after
    pub closed : system.closes left after new

  -- `migrate` with two paths: the old file couldn't be opened; or its registry was moved, or wasn't; each refusal is told
  abbrev pub RunsMigrate : {W E : Type 0} → (W → Option (List ℕ)) → (E → Option (List ℕ)) → (old_path new_path : List ℕ) → S → S → (held holds : Output W) → (faults faulted : Output E) → ℕ → Type 0
  RunsMigrate contents tells old_path new_path old new held holds faults faulted status =
      ((status ≡ 1) × (holds ≡ held) × system.opens old old_path None new × IsTold tells refusals.DeviceFailed faults faulted)
      ⊎ (((status ≡ 0) × Over old_path old new (λ begun left before after. Moves new_path begun left before after (IsShown disk contents held holds)))
      ⊎ ((status ≡ 1) × ((refusal : Refusal) × Over old_path old new (λ begun left before after. MoveFails refusal new_path begun left before after held holds) × IsTold tells refusal faults faulted)))
