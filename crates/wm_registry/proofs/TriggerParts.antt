-- What is no trigger or no command, once its parts have been read.
use Rattle.std.proofs.Common.{◌≡◌, ◌≢◌, ℕ, ◌^◌, ◌<◌, get_or, Bool, true, false, List, ◌∷◌, length, Option, drop, sym, ap, ◌∙◌, arith}
use Rattle.std.proofs.lemmas.List.{length-append}
use Rattle.wm_wire.specs.Spelling.{text, truth, Every, BeginsWith, NoneBegins, IsText, IsList, IsOptional, IsPair, list_spelling, optional_spelling, pair_spelling}
use Rattle.wm_wire.specs.Laws.{alone_text}
use Rattle.wm_wire.specs.ListLaws.{alone_list}
use Rattle.wm_registry.specs.Endings.{IsEnding, ending_spelling}
use Rattle.wm_registry.specs.Limits.{max_trigger_name, max_words, max_word, max_expression}
use Rattle.wm_registry.specs.PathSpelling.{IsPath}
use Rattle.wm_registry.specs.Spelling.{IsName, IsTrigger, stdin_spelling, trigger_spelling}
use Rattle.wm_registry.specs.TriggerLaws.{alone_name, same_part, short_trigger, small_text, small_trigger}
use Rattle.wm_registry.specs.Triggers.{Definition, has_program}
use Rattle.wm_registry.specs.Commands.{IsCommand, command_spelling}
use Rattle.wm_registry.specs.declared.command.Command.TheVariants.{Begin, Watch, WatchDel, Trigger, TriggerDel}
use Rattle.wm_registry.specs.declared.stdin.Stdin.{Stdin}
use Rattle.wm_registry.specs.declared.version.Version.{Version}
use Rattle.wm_names.specs.Paths.{max_root_path}

-- a trigger as it is read: pairs within pairs
abbrev pub Last : Type 0
Last = Stdin × Option ℕ

abbrev pub Flags : Type 0
Flags = Bool × Last

abbrev pub Choice : Type 0
Choice = Option (List ℕ) × Flags

abbrev pub Program : Type 0
Program = List (List ℕ) × Choice

abbrev pub Parts : Type 0
Parts = List ℕ × Program

module _ (v : Version) where
  abbrev pub last_spelling : Last → List ℕ
  last_spelling = pair_spelling stdin_spelling (ending_spelling v)

  abbrev pub flags_spelling : Flags → List ℕ
  flags_spelling = pair_spelling truth last_spelling

  abbrev pub choice_spelling : Choice → List ℕ
  choice_spelling = pair_spelling (optional_spelling text) flags_spelling

  abbrev pub program_spelling : Program → List ℕ
  program_spelling = pair_spelling (list_spelling text) choice_spelling

  abbrev pub parts_spelling : Parts → List ℕ
  parts_spelling = pair_spelling text program_spelling

  abbrev pub IsLast : Last → Type 0
  IsLast = IsPair Every stdin_spelling (IsEnding v) (ending_spelling v)

  abbrev pub AreFlags : Flags → Type 0
  AreFlags = IsPair Every truth IsLast last_spelling

  abbrev pub IsChoice : Choice → Type 0
  IsChoice = IsPair (IsOptional (IsText max_expression) text) (optional_spelling text) AreFlags flags_spelling

  abbrev pub IsProgram : Program → Type 0
  IsProgram = IsPair (IsList max_words (IsText max_word) text) (list_spelling text) IsChoice choice_spelling

  abbrev pub AreParts : Parts → Type 0
  AreParts = IsPair IsName text IsProgram program_spelling

abbrev pub parts_of : Definition → Parts
parts_of x = (x.name, (x.command, (x.expression, (x.append_files, (x.stdin, x.max_files_stdin)))))

-- the parts of a trigger fit
are_parts : (v : Version) (x : Definition) → IsTrigger v x → AreParts v (parts_of x)
are_parts v x h =
    let last : Last = (x.stdin, x.max_files_stdin) in
    let flags : Flags = (x.append_files, last) in
    let choice : Choice = (x.expression, flags) in
    let program : Program = (x.command, choice) in
    let whole : length (parts_spelling v (parts_of x)) < 2 ^ 32 = short_trigger v x h in
    let of_program : length (program_spelling v program) < 2 ^ 32 = omega (arith, whole, length-append (text x.name) (program_spelling v program)) in
    let of_choice : length (choice_spelling v choice) < 2 ^ 32 = omega (arith, of_program, length-append (list_spelling text x.command) (choice_spelling v choice)) in
    let of_flags : length (flags_spelling v flags) < 2 ^ 32 = omega (arith, of_choice, length-append (optional_spelling text x.expression) (flags_spelling v flags)) in
    let of_last : length (last_spelling v last) < 2 ^ 32 = omega (arith, of_flags, length-append (truth x.append_files) (last_spelling v last)) in
    record {
      first = h.name;
      second = record {
        first = h.command;
        second = record {
          first = h.expression;
          second = record { first = tt; second = record { first = tt; second = h.ending; short = of_last }; short = of_flags };
          short = of_choice;
        };
        short = of_program;
      };
      short = whole;
    }

-- where no parts begin the bytes, no trigger does
pub no_parts : (v : Version) (bytes : List ℕ) → NoneBegins (AreParts v) (parts_spelling v) bytes → NoneBegins (IsTrigger v) (trigger_spelling v) bytes
no_parts v bytes none value rest h e = none (parts_of value) rest (are_parts v value h) e

-- nor where the command that is read has no program
pub no_program : (v : Version) (bytes : List ℕ) (found : Parts) (size : ℕ) → BeginsWith (AreParts v) (parts_spelling v) bytes found size → has_program found.1.0 ≡ false → NoneBegins (IsTrigger v) (trigger_spelling v) bytes
no_program v bytes found size begins broken value rest h e =
    let name = same_part IsName text alone_name found.0 value.name _ _ (drop size bytes) rest begins.known.first h.name (sym begins.parts ∙ e) in
    let command = same_part (IsList max_words (IsText max_word) text) (list_spelling text) (alone_list max_words (IsText max_word) text (alone_text max_word)) found.1.0 value.command _ _ (drop size bytes) rest begins.known.second.first h.command name.rest in
    let bad : false ≡ true = sym broken ∙ ap has_program command.value ∙ h.program in absurd cc

-- bytes that begin with one tag are no spelling that begins with another
other_tag : (bytes more : List ℕ) (tag other : ℕ) → get_or bytes 0 0 ≡ tag → tag ≢ other → bytes ≡ other ∷ more → ⊥
other_tag bytes more tag other first apart e = apart (sym first ∙ ap (λ (l : List ℕ). get_or l 0 0) e)

-- where no path and trigger follow the tag 3, no command begins the bytes
pub no_trigger : (v : Version) (bytes : List ℕ) → get_or bytes 0 0 ≡ 3 → NoneBegins (IsPair IsPath text (IsTrigger v) (trigger_spelling v)) (pair_spelling text (trigger_spelling v)) (drop 1 bytes) → NoneBegins (IsCommand v) (command_spelling v) bytes
no_trigger v bytes first none Begin rest h e = other_tag bytes _ 3 0 first (omega arith) e
no_trigger v bytes first none (Watch path) rest h e = other_tag bytes _ 3 1 first (omega arith) e
no_trigger v bytes first none (WatchDel path) rest h e = other_tag bytes _ 3 2 first (omega arith) e
no_trigger v bytes first none (Trigger path trigger) rest h e =
    let short : length (pair_spelling text (trigger_spelling v) (path, trigger)) < 2 ^ 32 = omega (arith, small_text max_root_path path h.0.is_text, small_trigger v v trigger h.1, length-append (text path) (trigger_spelling v trigger)) in
    none (path, trigger) rest (record { first = h.0; second = h.1; short = short }) (ap (λ (l : List ℕ). drop 1 l) e)
no_trigger v bytes first none (TriggerDel path name) rest h e = other_tag bytes _ 3 4 first (omega arith) e

-- nor where no path and name follow the tag 4
pub no_name : (v : Version) (bytes : List ℕ) → get_or bytes 0 0 ≡ 4 → NoneBegins (IsPair IsPath text IsName text) (pair_spelling text text) (drop 1 bytes) → NoneBegins (IsCommand v) (command_spelling v) bytes
no_name v bytes first none Begin rest h e = other_tag bytes _ 4 0 first (omega arith) e
no_name v bytes first none (Watch path) rest h e = other_tag bytes _ 4 1 first (omega arith) e
no_name v bytes first none (WatchDel path) rest h e = other_tag bytes _ 4 2 first (omega arith) e
no_name v bytes first none (Trigger path trigger) rest h e = other_tag bytes _ 4 3 first (omega arith) e
no_name v bytes first none (TriggerDel path name) rest h e =
    let short : length (pair_spelling text text (path, name)) < 2 ^ 32 = omega (arith, small_text max_root_path path h.0.is_text, small_text max_trigger_name name h.1.is_text, length-append (text path) (text name)) in
    none (path, name) rest (record { first = h.0; second = h.1; short = short }) (ap (λ (l : List ℕ). drop 1 l) e)
