-- What a parse of the words comes to, by clap.
use Rattle.std.specs.Prelude.{◌≡◌, ◌⊎◌, ℕ, IfErr, IfOk, List, [], Option, Result, Some, None, true}
use Rattle.clap.specs.Words.{App, IsAmong, Text, fault_of, found_of, is_simple_and_free, matches_of, rows_of, subcommand_of, subcommand_rows_of}
use Rattle.clap.specs.declared.error.ErrorKind.{ErrorKind}
use Rattle.clap.specs.declared.error.ErrorKind.TheVariants as kind
use Rattle.clap.specs.declared.parser.ArgMatches.{ArgMatches}
use Rattle.wm_arguments.specs.declared.shown.Shown.{Shown}

-- the words have no error, and this is what they hold: for each argument, and behind the subcommand that was met
abbrev pub IsParseOf : App → List Text → ArgMatches → Type 0
IsParseOf app words m = (fault_of app words ≡ []) × (rows_of (found_of m) ≡ matches_of app words) × (subcommand_rows_of m ≡ subcommand_of app words)

-- the status after an error of this kind: help and the version as asked, all else as a usage error; running out of memory is never shown
abbrev pub status_for : ErrorKind → Option ℕ
status_for kind.OutOfMemory = None
status_for kind.DisplayHelp = Some 0
status_for kind.DisplayVersion = Some 0
status_for other = Some 2

-- the status of an error that clap may give at the words
abbrev pub MayShow : App → List Text → ℕ → Type 0
MayShow app words status = (k : ErrorKind) × IsAmong k (fault_of app words) × (status_for k ≡ Some status)

-- what is found in the words by a command without global arguments, if anything is
abbrev pub ParseFinds : {F : Type 0} → App → List Text → Result (Result ArgMatches Shown) F → Type 0
ParseFinds app words result = is_simple_and_free app ≡ true → IfOk result (λ r. IfOk r (IsParseOf app words))

-- what is shown in place of it, if anything is
abbrev pub ParseShows : {F : Type 0} → App → List Text → Result (Result ArgMatches Shown) F → Type 0
ParseShows app words result = is_simple_and_free app ≡ true → IfOk result (λ r. IfErr r (λ shown. MayShow app words shown.status))

-- What the words ask for: what is found in them, if they have no error, or else a text with the status of one of their errors.
abbrev pub AsksBy : {W : Type 0} → App → (W → Type 0) → (ℕ → W) → List Text → W → Type 0
AsksBy app finds shown words wanted = ((fault_of app words ≡ []) × finds wanted)
    ⊎ ((status : ℕ) × MayShow app words status × (wanted ≡ shown status))
