-- What the command-line words of `watchmand` ask for. A word is a text, as the list of its bytes.
use Rattle.std.specs.Prelude.{ℕ, Bool, true, false, List, [], ◌∷◌, Option, Some, None, codes}
use Rattle.std.specs.Prelude.{◌==◌, ◌||◌, if◌then◌else◌, is_some, option_and_then, option_map, slice_get}
use Rattle.std.specs.Option.{option_map_or}
use Rattle.std.specs.Str.{bytes_eq, chars}
use Rattle.std.specs.String.{string_bytes}
use Rattle.clap.specs.Words.{App, Row, Text, first_of, new_app, with_rule, with_subcommand}
use Rattle.wm_arguments.specs.ArgumentRules.{needed_rule}
use Rattle.wm_server.specs.declared.program.words.Words.{Words}
use Rattle.wm_server.specs.declared.program.words.Words.TheVariants as words

-- ---- what may be asked

pub data Asked : Type 0 where
  -- `format` with this FILE
  format : Text → Asked
  -- `lines` with this FILE
  lines : Text → Asked
  -- `migrate` with this OLD and this NEW
  migrate : (old new : Text) → Asked
  -- a text is shown, and the program ends with this status
  shown : ℕ → Asked

-- help or the version
abbrev pub shown_as_asked : Asked
shown_as_asked = shown 0

abbrev pub fault : Asked
fault = shown 2

-- what a `Words` of the code says, but for the text that it shows
abbrev pub asked_of : Words → Asked
asked_of (words.Format file) = format (string_bytes file)
asked_of (words.Lines file) = lines (string_bytes file)
asked_of (words.Migrate old new) = migrate (string_bytes old) (string_bytes new)
asked_of (words.Shown text status) = shown status

-- ---- one word

-- `--`, after which no word is a flag
abbrev pub ends_flags : Text → Bool
ends_flags word = bytes_eq word (codes "--")

-- the character that follows a hyphen (45) at the head of the word
abbrev pub flag_of : Text → Option ℕ
flag_of [] = None
flag_of (byte ∷ rest) = if byte == 45 then slice_get (chars rest) 0 else None

-- a hyphen with something after it; so `-` and the empty word are no flags
abbrev pub is_flag : Text → Bool
is_flag word = is_some (flag_of word)

-- `--help` or `--version`, or `-h` (104) or `-V` (86) with anything after it
abbrev pub asks_to_tell : Text → Bool
asks_to_tell word = (bytes_eq word (codes "--help") || bytes_eq word (codes "--version"))
    || option_map_or (λ character. character == 104 || character == 86) (flag_of word) false

-- ---- all the words: the first one that has no place decides between what is told and a fault

abbrev pub asked_by_stray : Text → Asked
asked_by_stray word = if asks_to_tell word then shown_as_asked else fault

-- after `--`: exactly one FILE, whatever it looks like
abbrev pub asked_after_dashes : (Text → Asked) → List Text → Asked
asked_after_dashes with_file [] = fault
asked_after_dashes with_file (file ∷ []) = with_file file
asked_after_dashes with_file (file ∷ more ∷ rest) = fault

-- after FILE: nothing, or `--` as the last word
abbrev pub asked_after_file : Asked → List Text → Asked
asked_after_file done [] = done
asked_after_file done (word ∷ []) = if ends_flags word then done else asked_by_stray word
asked_after_file done (word ∷ more ∷ rest) =
    if ends_flags word then fault else asked_by_stray word

-- after a command that takes one FILE: exactly that, which is no flag unless `--` stands before it
abbrev pub asked_after_command : (Text → Asked) → List Text → Asked
asked_after_command with_file [] = fault
asked_after_command with_file (word ∷ rest) =
    if ends_flags word then asked_after_dashes with_file rest
    else (if is_flag word then asked_by_stray word else asked_after_file (with_file word) rest)

-- after `migrate` and `--`: exactly OLD and NEW, whatever they look like
abbrev pub asked_after_migrate_dashes : List Text → Asked
asked_after_migrate_dashes [] = fault
asked_after_migrate_dashes (old ∷ rest) = asked_after_dashes (migrate old) rest

-- after `migrate`: OLD, which is no flag unless `--` stands before it, and then NEW, as FILE after a command
abbrev pub asked_after_migrate : List Text → Asked
asked_after_migrate [] = fault
asked_after_migrate (word ∷ rest) =
    if ends_flags word then asked_after_migrate_dashes rest
    else (if is_flag word then asked_by_stray word else asked_after_command (migrate word) rest)

-- the program's name is not among the words
abbrev pub asked : List Text → Asked
asked [] = fault
asked (word ∷ rest) = if bytes_eq word (codes "format") then asked_after_command format rest
    else (if bytes_eq word (codes "lines") then asked_after_command lines rest
    else (if bytes_eq word (codes "migrate") then asked_after_migrate rest
    else asked_by_stray word))

-- ---- the command line as clap is told of it

-- a command with FILE
abbrev pub file_app : Text → App
file_app name = with_rule (new_app name) (needed_rule (codes "FILE"))

-- `migrate`, with OLD and NEW
abbrev pub migrate_app : App
migrate_app = with_rule (with_rule (new_app (codes "migrate")) (needed_rule (codes "OLD"))) (needed_rule (codes "NEW"))

-- the program's command, with no command below it yet
abbrev pub bare_app : App
bare_app = record {
  top = record (new_app (codes "watchmand")).top {
    no_binary_name = true;
    disable_help_subcommand = true;
    subcommand_required = true;
    has_version = true;
    propagate_version = true;
  };
  subs = [];
}

abbrev pub watchmand_app : App
watchmand_app = with_subcommand (with_subcommand
    (with_subcommand bare_app (file_app (codes "format")).top)
    (file_app (codes "lines")).top)
    migrate_app.top

-- ---- what clap answers

-- what is asked by the entries of the matches of `migrate`
abbrev pub migrate_by : List Row → Option Asked
migrate_by rows = option_and_then (λ old. option_map (migrate old) (first_of (codes "NEW") rows)) (first_of (codes "OLD") rows)

-- what is asked by the subcommand that was met, with the entries of its matches
abbrev pub asked_by_matches : Option (Text × List Row) → Option Asked
asked_by_matches None = None
asked_by_matches (Some met) = if bytes_eq met.0 (codes "migrate") then migrate_by met.1
    else option_map (λ file. if bytes_eq met.0 (codes "format") then format file else lines file) (first_of (codes "FILE") met.1)
