use Rattle.std.proofs.Common.{◌≡◌, ◌++◌, take}
use Rattle.std.specs.Process.{SameDir, SameEnv, command_args, command_program}
use Rattle.wm_triggers.specs.Starting.{file_paths}
use Rattle.wm_triggers.proofs.starting.add_paths.Given as goal

abbrev pub invariant-loop-file : goal.invariant-loop-file
invariant-loop-file l = record {
  words : command_args l.command ≡ command_args l.fn.command ++ file_paths (take l.file-index l.files);
  program : command_program l.command ≡ command_program l.fn.command;
  environment : SameEnv l.fn.command l.command;
  folder : SameDir l.fn.command l.command;
}
