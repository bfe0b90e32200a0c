-- What the program does of what its words ask for: its calls of the system, its status, and what it shows and tells.
use Rattle.std.specs.Prelude.{◌≡◌, ◌⊎◌, ◌<◌, true, ℕ, List, [], Option, Some, None, codes}
use Rattle.std.specs.Io.KnownBytes.{Appends}
use Rattle.wm_disk.specs.Contents.{Only, Rose}
use Rattle.wm_disk.specs.declared.disk.Disk as disks
use Rattle.wm_disk.specs.declared.refusal.Refusal.{Refusal}
use Rattle.wm_disk.specs.declared.refusal.Refusal.TheVariants as refusals
use Rattle.wm_checkpoint.specs.Meanings.{Means}
use Rattle.wm_checkpoint.specs.declared.layout.Slot.TheVariants.{A}
use Rattle.wm_registry.specs.MachineLaws.{watches}
use Rattle.wm_registry.specs.Registry.{empty_registry}
use Rattle.wm_server.specs.program.Endings.{Ends, EndsBy, LeavesAnytime, Tells, status_of}
use Rattle.wm_server.specs.program.Programs.{IsTold, LinesAnswered, LinesServed}
use Rattle.wm_session.specs.local.Stores.{Later}
use Rattle.wm_session.specs.session.Streams.{Streams, reader_of, writer_failed, writer_of}
use Rattle.wm_server.specs.program.Migrating.{RunsMigrate}
use Rattle.wm_server.specs.program.Words.{Asked, format, lines, migrate, shown}
use Rattle.wm_server.specs.declared.program.lines.Ending.{Ending}
use Rattle.wm_session.specs.declared.session.output.Output.{Output}
use Rattle.wm_server.specs.declared.program.system.System as systems
use Rattle.wm_registry.specs.declared.version.Version.TheVariants.{Two}

-- Why a format failed from one moment of the disk to another: memory ran out and nothing was written, or the device failed, or the writer.
abbrev pub FormatFails : {D W : Type 0} → disks.Ghosts D → Refusal → D → D → Output W → Type 0
FormatFails disk refusals.NoMemory old new holds = new ≡ old
FormatFails disk refusals.DeviceFailed old new holds = Rose (disk.failures old) (disk.failures new) ⊎ (writer_failed holds ≡ true)
FormatFails disk _ old new holds = ⊥

module _ {S D : Type 0} (disk : disks.Ghosts D) (system : systems.Ghosts S D) where
  -- A new file was made at a path, formatted, and closed, and that was shown.
  pub record Formatted (path : List ℕ) (old new : S) (held holds : Option (List ℕ)) : Type 0 where
    pub begun : S
    pub before : D
    pub after : D
    pub created : system.creates old path (Some before) begun
    pub closed : system.closes begun after new
    pub formatted : disk.honest after → Means (watches Two) (disk.seen after) A 1 (empty_registry Two) []
    pub durable : disk.honest after → Only (disk.seen after) (disk.may_leave after)
    pub shows : Appends held holds (codes "formatted\n")

  -- A new file was made, and closed and taken away again, for this refusal.
  pub record Unformatted {W : Type 0} (path : List ℕ) (old new : S) (refusal : Refusal) (holds : Output W) : Type 0 where
    pub begun : S
    pub before : D
    pub after : D
    pub left : S
    pub created : system.creates old path (Some before) begun
    pub closed : system.closes begun after left
    pub removed : system.removes left path new
    pub cause : FormatFails disk refusal before after holds

  -- `format` with a path: the file couldn't be made, or it was made, or taken away again; each refusal is told
  abbrev pub RunsFormat : {W E : Type 0} → (W → Option (List ℕ)) → (E → Option (List ℕ)) → List ℕ → S → S → (held holds : Output W) → (faults faulted : Output E) → ℕ → Type 0
  RunsFormat contents tells path old new held holds faults faulted status = ((status ≡ 1) × system.creates old path None new × IsTold tells refusals.DeviceFailed faults faulted)
      ⊎ (((status ≡ 0) × Formatted path old new (contents (writer_of held)) (contents (writer_of holds)))
      ⊎ ((status ≡ 1) × ((refusal : Refusal) × Unformatted path old new refusal holds × IsTold tells refusal faults faulted)))

  -- what a reader had to give, and what the writers hold, where they tell it
  module _ {R W E : Type 0} (gives : R → Option (List ℕ)) (holds : W → Option (List ℕ)) (tells : E → Option (List ℕ)) where
    -- The file of a path was opened, lines were answered over it, and it was closed.
    pub record LinesOver (path : List ℕ) (old new : S) (first last : Streams R W E) (status : ℕ) : Type 0 where
      pub begun : S
      pub before : D
      pub after : D
      pub opened : system.opens old path (Some before) begun
      pub closed : system.closes begun after new
      pub served : status ≡ 0 → disk.honest after → (input : List ℕ) → gives (reader_of first.reader) ≡ Some input →
          LinesServed disk before input (holds (writer_of first.writer)) (holds (writer_of last.writer)) after
      pub answered : status ≡ 0 → (input : List ℕ) → gives (reader_of first.reader) ≡ Some input → LinesAnswered input (holds (writer_of first.writer)) (holds (writer_of last.writer))
      pub ending : Ending
      pub status_is : status ≡ status_of ending
      pub ends : Ends disk ending (gives (reader_of first.reader)) before after
      pub ends_by : EndsBy ending first.reader last.reader first.writer last.writer
      pub told : Tells tells ending first.faults last.faults
      pub any_moment : LeavesAnytime disk (gives (reader_of first.reader)) before after
      pub later : Later disk before after

    -- `lines` with a path: the file couldn't be opened, which is told, or lines were answered over it
    abbrev pub RunsLinesOver : List ℕ → S → S → Streams R W E → Streams R W E → ℕ → Type 0
    RunsLinesOver path old new first last status = ((status ≡ 1) × system.opens old path None new × IsTold tells refusals.DeviceFailed first.faults last.faults)
        ⊎ LinesOver path old new first last status

    -- A text was shown: help or the version on the writer, a fault of the words where refusals are told.
    abbrev pub Shows : ℕ → Streams R W E → Streams R W E → Type 0
    Shows asked first last = (text : List ℕ) × (asked ≡ 0 → Appends (holds (writer_of first.writer)) (holds (writer_of last.writer)) text)
        × (0 < asked → Appends (tells (writer_of first.faults)) (tells (writer_of last.faults)) text × (last.writer ≡ first.writer))

    -- By what is asked for: from old to new the program made these calls of the system, and ends with this status. A text that is asked for
    -- was shown, unless that failed.
    abbrev pub Runs : Asked → S → S → Streams R W E → Streams R W E → ℕ → Type 0
    Runs (lines path) old new first last status = RunsLinesOver path old new first last status
    Runs (format path) old new first last status = RunsFormat holds tells path old new first.writer last.writer first.faults last.faults status
    Runs (migrate old_path new_path) old new first last status = RunsMigrate disk system holds tells old_path new_path old new first.writer last.writer first.faults last.faults status
    Runs (shown asked) old new first last status = (new ≡ old) × (((status ≡ asked) × Shows asked first last)
        ⊎ ((status ≡ 1) × ((writer_failed last.writer ≡ true) ⊎ (writer_failed last.faults ≡ true))))

    -- nothing was done, and that is told: memory ran out
    abbrev pub IsUndone : S → S → Streams R W E → Streams R W E → ℕ → Type 0
    IsUndone old new first last status = (status ≡ 1) × (new ≡ old) × (last.writer ≡ first.writer) × IsTold tells refusals.NoMemory first.faults last.faults
