-- The command line of a program as clap is told of it.
use Rattle.std.specs.Prelude.{true, [], Some}
use Rattle.clap.specs.Words.{App, Rule, Text, new_app, new_rule}
use Rattle.clap.specs.declared.builder.ArgAction.TheVariants.{Set, SetTrue}

-- a program of this name, without its arguments
abbrev pub bare_program : Text → App
bare_program name = record {
  top = record (new_app name).top { no_binary_name = true; has_version = true };
  subs = [];
}

-- a word that has to be there
abbrev pub needed_rule : Text → Rule
needed_rule name = record (new_rule name) { action = Some Set; required = true }

-- a word that may be left out
abbrev pub optional_rule : Text → Rule
optional_rule name = record (new_rule name) { action = Some Set }

-- `--NAME VALUE`
abbrev pub option_rule : Text → Rule
option_rule name = record (new_rule name) { long = Some name; action = Some Set; value_names = 1 }

-- `--NAME`
abbrev pub flag_rule : Text → Rule
flag_rule name = record (new_rule name) { long = Some name; action = Some SetTrue }
