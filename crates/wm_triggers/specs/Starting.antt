-- How the program of a run is started.
use Rattle.std.specs.Prelude.{ℕ, List, [], ◌∷◌, ◌++◌, Bool, false, map, drop, take, Option, Some, None, if◌then◌else◌}
use Rattle.std.specs.List.{flat_map}
use Rattle.std.specs.Process.{clears_env, command_args, command_dir, command_program, command_var}
use Rattle.std.specs.declared.process.command.Command.{Command}
use Rattle.wm_names.specs.Paths.{Path}
use Rattle.wm_registry.specs.declared.stdin.Stdin.{Stdin}
use Rattle.wm_registry.specs.declared.stdin.Stdin.TheVariants.{DevNull, NamePerLine}
use Rattle.wm_registry.specs.Triggers.{Definition}
use Rattle.wm_since.specs.declared.listed.Listed.{Listed}
use Rattle.wm_since.specs.declared.query.Answer.{Answer}

-- the paths of files, in their order
abbrev pub file_paths : List Listed → List Path
file_paths files = map (λ file. file.entry.path) files

-- the program is the first word, and an empty text where there is none
abbrev pub program_in : List (List ℕ) → List ℕ
program_in [] = []
program_in (word ∷ words) = word

-- its words: those behind the first, and behind them the path of each file where the trigger appends the files
abbrev pub words_for : Definition → Answer → List (List ℕ)
words_for t run = drop 1 t.command ++ (if t.append_files then file_paths run.files else [])

-- each path and a newline
abbrev pub path_lines : List Path → List ℕ
path_lines paths = flat_map (λ path. path ++ 10 ∷ []) paths

-- the first files, as many as the number says; all of them, where there is no number
abbrev pub first_files : Option ℕ → List Listed → List Listed
first_files None files = files
first_files (Some n) files = take n files

-- what names these files is read; with none it reads `/dev/null`
abbrev pub input_of : Stdin → List Listed → Option (List ℕ)
input_of DevNull files = None
input_of NamePerLine files = Some (path_lines (file_paths files))

-- what it reads: the first files of the run, as many as its trigger says
abbrev pub input_for : Definition → Answer → Option (List ℕ)
input_for t run = input_of t.stdin (first_files t.max_files_stdin run.files)

-- A program as it is started: its name, its words, its working folder, and what it reads; whether it gets nothing of this process's environment, and
-- what is said of each variable: a value, or that it has none, or nothing.
pub record Launch : Type 0 where
  pub program : List ℕ
  pub words : List (List ℕ)
  pub folder : Option (List ℕ)
  pub input : Option (List ℕ)
  pub clears : Bool
  pub variables : List ℕ → Option (Option (List ℕ))

-- that of a run of the trigger of a root, in the environment of this process
abbrev pub launch_for : Path → Definition → Answer → Launch
launch_for root t run = record {
  program = program_in t.command;
  words = words_for t run;
  folder = Some root;
  input = input_for t run;
  clears = false;
  variables = λ name. None;
}

-- that of a command, where its program reads this
abbrev pub launch_by : {A : Type 0} → Command A → Option (List ℕ) → Launch
launch_by command input = record {
  program = command_program command;
  words = command_args command;
  folder = command_dir command;
  input = input;
  clears = clears_env command;
  variables = command_var command;
}
