-- Why the program of a trigger couldn't be started.
use Rattle.std.specs.Prelude.{List, ℕ, codes}
use Rattle.wm_explain.specs.declared.start_cause.StartCause.{StartCause}
use Rattle.wm_explain.specs.declared.start_cause.StartCause.TheVariants.{NoFile, NoPermission, NoProgram, TooLong, NoProcess, NoMemory, Refused}

abbrev pub start_cause_text : StartCause → List ℕ
start_cause_text NoFile = codes "no such file"
start_cause_text NoPermission = codes "no permission"
start_cause_text NoProgram = codes "the system can't run such a file"
start_cause_text TooLong = codes "its arguments are too long together"
start_cause_text NoProcess = codes "too many processes run"
start_cause_text NoMemory = codes "memory ran out"
start_cause_text Refused = codes "the system refused to start it"
