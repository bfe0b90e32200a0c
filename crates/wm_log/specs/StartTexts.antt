-- Why the program of a trigger couldn't be started.
use Rattle.std.specs.Prelude.{◌++◌, List, ℕ, codes, string_bytes}
use Rattle.wm_explain.specs.Shown.{shown_text}
use Rattle.wm_explain.specs.StartCauses.{start_cause_text}
use Rattle.wm_log.specs.declared.start_fault.StartFault.{StartFault}

-- the program, and why it couldn't be started
abbrev pub start_fault_text : StartFault → List ℕ
start_fault_text fault = shown_text (string_bytes fault.program) ++ codes ": " ++ start_cause_text fault.cause
