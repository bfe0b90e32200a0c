-- What `watchmand` does of what is wanted of it: its calls of the system and of the server, its status, and what it shows and tells.
use Rattle.std.specs.Prelude.{◌≡◌, ◌⊎◌, true, ℕ, List, Option, Result, Ok, Err}
use Rattle.clap.specs.Words.{Text}
use Rattle.wm_disk.specs.declared.disk.Disk as disks
use Rattle.wm_disk.specs.declared.refusal.Refusal.{Refusal}
use Rattle.wm_serve.specs.declared.server.Settings.{Settings}
use Rattle.wm_session.specs.session.Streams.{Streams, writer_failed}
use Rattle.wm_server.specs.program.Programs.{IsTold}
use Rattle.wm_server.specs.program.Systems.{IsUndone, Runs, Shows}
use Rattle.wm_server.specs.program.Words.{asked}
use Rattle.wm_server.specs.declared.program.system.System as systems
use Rattle.wm_program.specs.declared.program.ProgramHost.{ProgramHost}
use Rattle.wm_program.specs.ProgramWords.{ProgramWanted, plain, serve_on, shown_status}

-- what a server came to is the status, and a refusal is told; nothing else is read, shown or told
abbrev pub EndsServed : {R W E : Type 0} → (E → Option (List ℕ)) → Result (Unit {0}) Refusal → Streams R W E → Streams R W E → ℕ → Type 0
EndsServed tells (Ok done) first last status = (status ≡ 0) × (last ≡ first)
EndsServed tells (Err refusal) first last status = (status ≡ 1) × IsTold tells refusal first.faults last.faults × (last.reader ≡ first.reader) × (last.writer ≡ first.writer)

-- the server was called once, with texts of these paths, and came to this
abbrev pub IsServedOn : {V X : Type 0} → (V → X → X → Settings → Result (Unit {0}) Refusal → V → Type 0) → (X → Text) → V → Text → Text → Settings → Result (Unit {0}) Refusal → V → Type 0
IsServedOn {V} {X} calls bytes old file socket settings served new =
    (f : X) × (s : X) × (bytes f ≡ file) × (bytes s ≡ socket) × calls old f s settings served new

module _ {S D R W E V : Type 0} (disk : disks.Ghosts D) (system : systems.Ghosts S D) (serves : V → Text → Text → Settings → Result (Unit {0}) Refusal → V → Type 0)
    (gives : R → Option (List ℕ)) (holds : W → Option (List ℕ)) (tells : E → Option (List ℕ)) where
  -- By what is wanted of these words: a state file was served on a socket; or `format`, `lines` or `migrate` did what the words ask for; or
  -- a text was shown, unless that failed. Nothing else was done.
  abbrev pub RunsProgram : ProgramWanted → List Text → ProgramHost S V → ProgramHost S V → Streams R W E → Streams R W E → ℕ → Type 0
  RunsProgram (serve_on file socket settings) words old new first last status = (new.system ≡ old.system)
      × ((served : Result (Unit {0}) Refusal) × serves old.serve file socket settings served new.serve × EndsServed tells served first last status)
  RunsProgram plain words old new first last status = (new.serve ≡ old.serve)
      × (IsUndone disk system gives holds tells old.system new.system first last status ⊎ Runs disk system gives holds tells (asked words) old.system new.system first last status)
  RunsProgram (shown_status wanted) words old new first last status = (new ≡ old) × (((status ≡ wanted) × Shows disk system gives holds tells wanted first last)
      ⊎ ((status ≡ 1) × ((writer_failed last.writer ≡ true) ⊎ (writer_failed last.faults ≡ true))))
