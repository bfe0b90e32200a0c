-- How a program ended, by the status that the system gives of it.
use Rattle.std.specs.Prelude.{◌≡◌, pos, None, Some}
use Rattle.std.specs.Process.{exit_code, exit_signal}
use Rattle.std.specs.declared.process.status.ExitStatus.{ExitStatus}
use Rattle.wm_triggers.specs.declared.program_end.ProgramEnd.{ProgramEnd}
use Rattle.wm_triggers.specs.declared.program_end.ProgramEnd.TheVariants.{Exited, Killed, Unknown}

-- the status has this code, or the signal; or it has neither
abbrev pub IsProgramEnd : ExitStatus → ProgramEnd → Type 0
IsProgramEnd status (Exited code) = exit_code status ≡ Some (pos code)
IsProgramEnd status (Killed signal) = exit_signal status ≡ Some (pos signal)
IsProgramEnd status Unknown = (exit_code status ≡ None) × (exit_signal status ≡ None)
