-- What a `FileDisk` shows.
use Rattle.std.specs.Prelude.{◌≡◌, ℕ, List, []}
use Rattle.wm_file.specs.FileEvents.{Event}
use Rattle.wm_file.specs.declared.file.FileDisk.{FileDisk}
use Rattle.wm_file.specs.declared.file.Start.{Ghosts}

module _ {S : Type 0} {start : Ghosts S} where
  -- its calls since it was opened, the newest first
  abbrev pub events_of : FileDisk S start → List Event
  events_of disk = disk.file.log.events

  abbrev pub file_failures : FileDisk S start → ℕ
  file_failures disk = disk.failures

  -- it was opened just now: it had no call and no failure
  abbrev pub IsJustOpened : FileDisk S start → Type 0
  IsJustOpened disk = (events_of disk ≡ []) × (file_failures disk ≡ 0)
