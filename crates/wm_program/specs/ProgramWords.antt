-- What the command-line words of `watchmand` ask for, `serve` among them. A word is a text, as the list of its bytes.
use Rattle.std.specs.Prelude.{◌≡◌, ◌≤◌, ◌-◌, ◌^◌, ℕ, Bool, true, false, List, Option, Some, None, codes}
use Rattle.std.specs.Str.{bytes_eq}
use Rattle.std.specs.String.{string_bytes}
use Rattle.clap.specs.Words.{App, Row, Text, first_of, new_app, subcommand_of, with_rule, with_subcommand}
use Rattle.wm_arguments.specs.ArgumentRules.{flag_rule, needed_rule, option_rule}
use Rattle.wm_arguments.specs.ArgumentValues.{TellsNumber, is_flag_set}
use Rattle.wm_arguments.specs.Parses.{AsksBy}
use Rattle.wm_crawler.specs.Crawls.{max_workers}
use Rattle.wm_serve.specs.declared.server.Settings.{Settings}
use Rattle.wm_server.specs.program.Words.{watchmand_app}
use Rattle.wm_program.specs.declared.words.Words.{Words}
use Rattle.wm_program.specs.declared.words.Words.TheVariants as words

-- ---- what may be asked

pub data ProgramWanted : Type 0 where
  -- the state file of the first path is served on a socket of the second
  serve_on : Text → Text → Settings → ProgramWanted
  -- `format`, `lines` or `migrate`
  plain : ProgramWanted
  -- a text is shown, and the program ends with this status
  shown_status : ℕ → ProgramWanted

-- what a `Words` of the code says, but for the text that it shows
abbrev pub program_wanted : Words → ProgramWanted
program_wanted (words.Serve file socket settings) = serve_on (string_bytes file) (string_bytes socket) settings
program_wanted words.Plain = plain
program_wanted (words.Shown text status) = shown_status status

-- ---- the command line as clap is told of it

abbrev pub file_and_socket : App
file_and_socket = with_rule (with_rule (new_app (codes "serve")) (needed_rule (codes "FILE"))) (needed_rule (codes "SOCKET"))

abbrev pub serve_app : App
serve_app = with_rule (with_rule (with_rule (with_rule (with_rule file_and_socket
    (option_rule (codes "workers"))) (option_rule (codes "gc-age"))) (option_rule (codes "gc-interval"))) (option_rule (codes "sessions"))) (flag_rule (codes "quiet"))

-- `format`, `lines`, `migrate` and `serve`
abbrev pub program_app : App
program_app = with_subcommand watchmand_app serve_app.top

-- ---- what clap finds in the words

-- no end after any number of sessions
abbrev pub endless : ℕ
endless = 2 ^ 64 - 1

-- these words are there for the options, and tell this
pub record TellsSettings (workers_word age_word interval_word sessions_word quiet_word : Option Text) (s : Settings) : Type 0 where
  pub workers : TellsNumber 4 workers_word s.workers
  pub allowed : (1 ≤ s.workers) × (s.workers ≤ max_workers)
  pub age : TellsNumber 43200 age_word s.retention.age_seconds
  pub interval : TellsNumber 86400 interval_word s.retention.interval_seconds
  pub sessions : TellsNumber endless sessions_word s.sessions
  pub quiet : s.is_quiet ≡ is_flag_set quiet_word

-- what is wanted where the options tell settings with this property; where none of them does, it is a fault
abbrev pub ServesBy : (Settings → Type 0) → (file_word socket_word : Option Text) → ProgramWanted → Type 0
ServesBy tells file_word socket_word (serve_on file socket settings) = (file_word ≡ Some file) × (socket_word ≡ Some socket) × tells settings
ServesBy tells file_word socket_word plain = ⊥
ServesBy tells file_word socket_word (shown_status status) =
    (status ≡ 2) × ((file socket : Text) (settings : Settings) → file_word ≡ Some file → socket_word ≡ Some socket → tells settings → ⊥)

-- what was found behind `serve` is wanted
abbrev pub FindsServe : List Row → ProgramWanted → Type 0
FindsServe rows wanted = ServesBy
    (TellsSettings (first_of (codes "workers") rows) (first_of (codes "gc-age") rows) (first_of (codes "gc-interval") rows) (first_of (codes "sessions") rows) (first_of (codes "quiet") rows))
    (first_of (codes "FILE") rows) (first_of (codes "SOCKET") rows) wanted

-- by whether the command is `serve`
abbrev pub NamedFor : Bool → List Row → ProgramWanted → Type 0
NamedFor true rows wanted = FindsServe rows wanted
NamedFor false rows wanted = wanted ≡ plain

-- the command that was met, with what was found behind it
abbrev pub MeetsFor : Option (Text × List Row) → ProgramWanted → Type 0
MeetsFor None wanted = wanted ≡ shown_status 2
MeetsFor (Some met) wanted = NamedFor (bytes_eq met.0 (codes "serve")) met.1 wanted

-- what the words ask for
abbrev pub AsksProgram : List Text → ProgramWanted → Type 0
AsksProgram words = AsksBy program_app (MeetsFor (subcommand_of program_app words)) shown_status words
