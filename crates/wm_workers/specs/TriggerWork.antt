-- What the worker of a root's triggers does with the runs of the root's definitions.
use Rattle.std.specs.Prelude.{◌≡◌, ◌⊎◌, ℕ, false, List, [], ◌∷◌, map, Option, Some, option_and_then, slice_get}
use Rattle.std.specs.Option.{MatchOption}
use Rattle.wm_disk.specs.declared.refusal.Refusal.TheVariants.{NoMemory, NoPlace, NotReady}
use Rattle.wm_names.specs.Paths.{Path}
use Rattle.wm_clock.specs.declared.clock_id.ClockId.{ClockId}
use Rattle.wm_registry.specs.Triggers.{Definition}
use Rattle.wm_expr.specs.Meanings.{holds}
use Rattle.wm_view.specs.Histories.{History, is_ready}
use Rattle.wm_since.specs.Answers.{Question, answer_to, from_clock}
use Rattle.wm_since.specs.declared.query.Answer.{Answer}
use Rattle.wm_share.specs.PublishedLists.{Begins, PublishedList, ViewerState, disconnected, history}
use Rattle.wm_triggers.specs.Due.{run_by, term_for}
use Rattle.wm_explain.specs.declared.start_cause.StartCause.{StartCause}
use Rattle.wm_triggers.specs.KeptRuns.{KeptRuns, kept_for, started_at}
use Rattle.wm_triggers.specs.declared.defined_trigger.DefinedTrigger.{DefinedTrigger}
use Rattle.wm_triggers.specs.Starting.{Launch, launch_for}
use Rattle.wm_triggers.specs.declared.not_run.NotRun.TheVariants.{DeviceFailed}
use Rattle.wm_triggers.specs.declared.program_end.ProgramEnd.{ProgramEnd}
use Rattle.wm_workers.specs.declared.triggers.rounds.NotDone.{NotDone}
use Rattle.wm_workers.specs.declared.triggers.rounds.NotDone.TheVariants.{Refused, Unstarted}

-- ---- one definition

-- what changed since the last run that was started, and all files before the first
abbrev pub since_last : Option ClockId → Question
since_last last = record { since = from_clock last; empty_on_fresh = false }

-- the run of a definition that is due on a history: the files that the trigger is for, of those that changed since its last run
abbrev pub due_for : KeptRuns → History → Option Answer
due_for one h = option_and_then (λ term. run_by (answer_to (holds term) h (since_last one.last))) (term_for one.trigger)

-- the program of a run has run, and ended in some way
abbrev pub RunsToEnd : (has_run : Launch → ProgramEnd → Type 0) → Path → Definition → Answer → Type 0
RunsToEnd has_run root trigger run = (end : ProgramEnd) × has_run (launch_for root trigger run) end

-- the run that is due has run, and its clock is kept; if none is due, all stays
abbrev pub RunsIfDue : (has_run : Path → Definition → Answer → Type 0) → Path → History → KeptRuns → KeptRuns → Type 0
RunsIfDue has_run root h old new = MatchOption (due_for old h) (new ≡ old) (λ run. has_run root old.trigger run × (new ≡ record old { last = Some run.clock }))

-- the same, or it was refused, and all stays
abbrev pub RunsOrStays : (has_run : Path → Definition → Answer → Type 0) → Path → History → KeptRuns → KeptRuns → Type 0
RunsOrStays has_run root h old new = RunsIfDue has_run root h old new ⊎ (new ≡ old)

-- ---- the definition at a place among those of a root

-- the run that is due there has run, and its clock is kept; all others stay
abbrev pub RunsAt : (has_run : Path → Definition → Answer → Type 0) → Path → History → ℕ → List KeptRuns → List KeptRuns → Type 0
RunsAt has_run root h place old new = (one : KeptRuns) × (slice_get old place ≡ Some one)
    × MatchOption (due_for one h) (new ≡ old) (λ run. has_run root one.trigger run × (new ≡ started_at place run.clock old))

-- the run that is due there couldn't be started for the cause
abbrev pub FailsAt : (has_failed : Launch → StartCause → Type 0) → Path → History → ℕ → List KeptRuns → StartCause → Type 0
FailsAt has_failed root h place old cause = (one : KeptRuns) × (slice_get old place ≡ Some one)
    × (run : Answer) × (due_for one h ≡ Some run) × has_failed (launch_for root one.trigger run) cause

-- Why the run there wasn't done: memory ran out, the root is gone, or it isn't ready yet; or no program ran. If its start failed, it was that of the run that is due.
abbrev pub IsNotDone : ViewerState → ViewerState → (fails : StartCause → Type 0) → NotDone → Type 0
IsNotDone old new fails (Refused e) = (e ≡ NoMemory) ⊎ ((e ≡ NoPlace) × (new ≡ disconnected old)) ⊎ ((e ≡ NotReady) × (is_ready (history new.list) ≡ false))
IsNotDone old new fails (Unstarted why) = (cause : StartCause) → why ≡ DeviceFailed cause → fails cause

-- ---- a round

-- Each definition in its turn, on a published list that begins with that of the one before it
abbrev pub EachInTurn : (History → KeptRuns → KeptRuns → Type 0) → PublishedList → List KeptRuns → List KeptRuns → PublishedList → Type 0
EachInTurn Turn seen [] [] last = Begins seen last
EachInTurn Turn seen [] (n ∷ news) last = ⊥
EachInTurn Turn seen (o ∷ olds) [] last = ⊥
EachInTurn Turn seen (o ∷ olds) (n ∷ news) last = (list : PublishedList) × Begins seen list × Turn (history list) o n × EachInTurn Turn list olds news last

-- each of the triggers that were defined at some moment, in its turn, with the runs that were kept of it
abbrev pub RunsDefined : (History → KeptRuns → KeptRuns → Type 0) → PublishedList → List KeptRuns → List KeptRuns → PublishedList → Type 0
RunsDefined Turn seen old new last = (defined : List DefinedTrigger) × EachInTurn Turn seen (map (kept_for old) defined) new last
