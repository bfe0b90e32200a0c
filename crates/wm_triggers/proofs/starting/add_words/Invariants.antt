use Rattle.std.proofs.Common.{◌≡◌, ◌++◌, take}
use Rattle.std.specs.Process.{SameDir, SameEnv, command_args, command_program}
use Rattle.wm_triggers.proofs.starting.add_words.Given as goal

abbrev pub invariant-loop-word : goal.invariant-loop-word
invariant-loop-word l = record {
  words : command_args l.command ≡ command_args l.fn.command ++ take l.word-index l.words;
  program : command_program l.command ≡ command_program l.fn.command;
  environment : SameEnv l.fn.command l.command;
  folder : SameDir l.fn.command l.command;
}
