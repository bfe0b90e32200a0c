-- Which results are logged, and as what.
use Rattle.std.specs.Prelude.{◌≡◌, ◌≢◌, ◌⊎◌, ℕ, List, Option, Some, None, Result, Ok, Err, string_bytes}
use Rattle.wm_disk.specs.declared.refusal.Refusal.{Refusal}
use Rattle.wm_disk.specs.declared.refusal.Refusal.TheVariants as refusals
use Rattle.wm_explain.specs.declared.start_cause.StartCause.{StartCause}
use Rattle.wm_explain.specs.declared.start_cause.StartCause.TheVariants as causes
use Rattle.wm_lines.specs.declared.progress.Progress.{Progress}
use Rattle.wm_log.specs.declared.event.What.{What}
use Rattle.wm_log.specs.declared.event.What.TheVariants as whats
use Rattle.wm_triggers.specs.declared.not_run.NotRun.{NotRun}
use Rattle.wm_triggers.specs.declared.not_run.NotRun.TheVariants as not_run
use Rattle.wm_triggers.specs.declared.program_end.ProgramEnd.{ProgramEnd}
use Rattle.wm_triggers.specs.declared.program_end.ProgramEnd.TheVariants as ends

-- why no program ran, as it is logged: not if the start wasn't permitted
abbrev pub IsLoggedCause : NotRun → StartCause → Type 0
IsLoggedCause not_run.NotPermitted cause = ⊥
IsLoggedCause (not_run.DeviceFailed why) cause = cause ≡ why
IsLoggedCause not_run.NoMemory cause = cause ≡ causes.NoMemory

-- of a run of the trigger of this name and this program, which came to this, this is logged
abbrev pub IsLoggedRun : (name program : List ℕ) → Result ProgramEnd NotRun → Option What → Type 0
IsLoggedRun name program ended None = (ended ≡ Ok (ends.Exited 0)) ⊎ (ended ≡ Ok ends.Unknown) ⊎ (ended ≡ Err not_run.NotPermitted)
IsLoggedRun name program ended (Some (whats.NotStarted text fault)) = (string_bytes text ≡ name) × (string_bytes fault.program ≡ program)
    × (failed : NotRun) × (ended ≡ Err failed) × IsLoggedCause failed fault.cause
IsLoggedRun name program ended (Some (whats.Exited text status)) = (string_bytes text ≡ name) × (ended ≡ Ok (ends.Exited status)) × (status ≢ 0)
IsLoggedRun name program ended (Some (whats.Killed text signal)) = (string_bytes text ≡ name) × (ended ≡ Ok (ends.Killed signal))
IsLoggedRun name program ended (Some other) = ⊥

-- of a crawl that came to this, this refusal is logged
abbrev pub IsLoggedCrawl : Result Progress Refusal → Option Refusal → Type 0
IsLoggedCrawl ended None = ((progress : Progress) × (ended ≡ Ok progress)) ⊎ (ended ≡ Err refusals.NotWatched) ⊎ (ended ≡ Err refusals.NotReady)
IsLoggedCrawl ended (Some e) = (ended ≡ Err e) × (e ≢ refusals.NotWatched) × (e ≢ refusals.NotReady)
