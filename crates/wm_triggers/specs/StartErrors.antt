-- Why a program couldn't be started, by the error that the system gives.
use Rattle.std.specs.Prelude.{◌≡◌, ◌≢◌, ℤ, pos, None, Option, Some}
use Rattle.std.specs.IoError.{error_kind, raw_os_error}
use Rattle.std.specs.declared.io.Error.{Error}
use Rattle.std.specs.declared.io.ErrorKind.{ErrorKind}
use Rattle.std.specs.declared.io.ErrorKind.TheVariants as kinds
use Rattle.wm_explain.specs.declared.start_cause.StartCause.{StartCause}
use Rattle.wm_explain.specs.declared.start_cause.StartCause.TheVariants as causes

-- the error is that memory of this process ran out, and not that of the system
abbrev pub IsOwnMemory : Error → Type 0
IsOwnMemory error = (error_kind error ≡ kinds.OutOfMemory) × (raw_os_error error ≡ None)

-- the number of the error of a file that the system can't run, which has no kind of its own
abbrev pub no_program_error : Option ℤ
no_program_error = Some (pos 8)

-- why a program couldn't be started, by the kind of any other error
abbrev pub cause_of_kind : ErrorKind → StartCause
cause_of_kind kinds.NotFound = causes.NoFile
cause_of_kind kinds.NotADirectory = causes.NoFile
cause_of_kind kinds.PermissionDenied = causes.NoPermission
cause_of_kind kinds.ArgumentListTooLong = causes.TooLong
cause_of_kind kinds.WouldBlock = causes.NoProcess
cause_of_kind kinds.OutOfMemory = causes.NoMemory
cause_of_kind _ = causes.Refused

-- the program couldn't be started for this cause, by the error
abbrev pub IsStartCause : Error → StartCause → Type 0
IsStartCause error cause = (raw_os_error error ≡ no_program_error → cause ≡ causes.NoProgram) × (raw_os_error error ≢ no_program_error → cause ≡ cause_of_kind (error_kind error))
