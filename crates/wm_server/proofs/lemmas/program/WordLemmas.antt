-- What clap makes of the words, as `specs/program/Words.antt` says it.
use Rattle.std.proofs.Common.{◌≡◌, ◌∙◌, ℕ, Bool, true, false, List, [], ◌∷◌, ◌++◌, Option, Some, None, inl, inr, refl, sym, ap, ap₂, subst, codes, is_some, option_map}
use Rattle.std.proofs.lemmas.Slice.Eq.{bytes_eq-Decides}
use Rattle.std.specs.List.{fold}
use Rattle.std.specs.Prelude.{◌==◌, if◌then◌else◌, option_and_then, unwrap_or}
use Rattle.std.specs.Str.{bytes_eq, chars}
use Rattle.clap.specs.Faults.{entered_fault, fault_of, walk_fault, defaults_fault, turn_fault}
use Rattle.clap.specs.Kinds.{IsAmong, Kinds, or_else}
use Rattle.clap.specs.Simple.{App, Shape, entered, subcommand_of, with_filled_rules, with_help_flag, with_version_flag}
use Rattle.clap.specs.Faults.{is_simple_and_free}
use Rattle.clap.specs.Walk.{Names, Row, Text, Walk, arg_by_long, arg_by_short, first_of, idle, settled_rows, subcommand_met, walked}
use Rattle.clap.specs.Simple.{subcommand_rows_of}
use Rattle.clap.specs.declared.error.ErrorKind.{ErrorKind}
use Rattle.clap.specs.declared.parser.ArgMatches.{ArgMatches}
use Rattle.clap.proofs.WalkLemmas.{walk_stopped}
use Rattle.wm_arguments.specs.Parses.{IsParseOf, MayShow, status_for}
use Rattle.wm_server.specs.program.Words.{Asked, asked, asked_after_dashes, asked_after_migrate, asked_after_migrate_dashes, asked_by_matches, asked_by_stray, asked_after_command, ends_flags, fault, file_app, format, is_flag, lines, migrate, migrate_app, migrate_by, shown, watchmand_app}
use Rattle.wm_server.proofs.lemmas.program.OneWordLemmas.{AllShow, Shows, asks_nothing, at, by_status, flip, long_flag, or_else-Shows, short_flag, status_of, turn_flag, turn_plain}
use Rattle.wm_server.proofs.lemmas.program.CommandLemmas.{Goes, above, after_dashes, built, command_goes, dashes, flagged, go_on, knows_flags, lacks, level_of, take_plain}

-- ---- all the words

abbrev top : Shape
top = with_filled_rules (with_version_flag (with_help_flag above))

abbrev whole : App
whole = record { top = top; subs = built (file_app (codes "format")) ∷ built (file_app (codes "lines")) ∷ built migrate_app ∷ [] }

abbrev names : Names
names = (codes "format", []) ∷ (codes "lines", []) ∷ (codes "migrate", []) ∷ []

-- what a parse gives where the words ask for a: no fault and the command with its paths, or kinds
-- that show the text
abbrev pub Gives : Asked → Kinds → Option Asked → Type 0
Gives (shown status) ks met = Shows status ks
Gives (format file) ks met = (ks ≡ []) × (met ≡ Some (format file))
Gives (lines file) ks met = (ks ≡ []) × (met ≡ Some (lines file))
Gives (migrate old new) ks met = (ks ≡ []) × (met ≡ Some (migrate old new))

abbrev Whole : Asked → Kinds → Walk → Type 0
Whole a faults end = Gives a
    (level_of top faults end (is_some (entered whole end.stopped)) (entered_fault whole end.stopped))
    (asked_by_matches (entered whole end.stopped))

abbrev Reads : Asked → Walk → List Text → Type 0
Reads a w words = Whole a (walk_fault top names w words) (fold (walked top.rules names) w words)

abbrev first : Walk
first = at [] None 1 false

fails : (status : ℕ) (w : Walk) (word : Text) (rest : List Text) → Shows status (turn_fault top names w word)
    → Reads (shown status) w (word ∷ rest)
unfolding walk_fault
fails status w word rest shows = or_else-Shows status _ _ (or_else-Shows status _ _ shows)

-- ---- a command is met

abbrev met : Text → List Text → Walk
met name seen = record first { stopped = Some (name, seen) }

no_faults : (name : Text) (seen rest : List Text) → walk_fault top names (met name seen) rest ≡ []
unfolding walk_fault walked
no_faults name seen [] = refl
no_faults name seen (word ∷ rest) = no_faults name (seen ++ word ∷ []) rest

-- what the rows of a command ask for is a
abbrev FitsBy : (List Row → Option Asked) → Asked → Kinds → List Row → Type 0
FitsBy asks a ks rows = Gives a (or_else ks []) (asks rows)

bad_fits : (asks : List Row → Option Asked) (status : ℕ) (ks : Kinds) (rows : List Row) → Shows status ks → FitsBy asks (shown status) ks rows
bad_fits asks status ks rows shows = or_else-Shows status ks [] shows

-- ---- `format` and `lines`

abbrev one_file : (Text → Asked) → List Row → Option Asked
one_file make rows = option_map make (first_of (codes "FILE") rows)

module _ (name : Text) where
  file_long : (n : Text) → arg_by_long (built (file_app name)).rules n ≡ long_flag n
  file_long n = knows_flags (bytes_eq (codes "help") n) (bytes_eq (codes "version") n)

  file_short : (x : ℕ) → arg_by_short (built (file_app name)).rules x ≡ short_flag x
  file_short x = knows_flags (104 == x) (86 == x)

abbrev file_taken : Text → Text × List Text
file_taken file = (codes "FILE", file ∷ [])

entered_format : (rest : List Text) → Whole (asked_after_command format rest) [] (met (codes "format") rest)
unfolding defaults_fault walked
entered_format rest = command_goes (built (file_app (codes "format"))) (file_long (codes "format")) (file_short (codes "format"))
    (FitsBy (one_file format)) (bad_fits (one_file format))
    format [] None 1 [] file_taken 2 refl (λ t. (refl, tt)) refl (λ path. refl) (λ path. (refl, refl)) (λ path t. (refl, refl)) (λ path. refl)
    (λ path. (refl, tt)) (λ path word. (refl, tt)) rest

entered_lines : (rest : List Text) → Whole (asked_after_command lines rest) [] (met (codes "lines") rest)
unfolding defaults_fault walked
entered_lines rest = command_goes (built (file_app (codes "lines"))) (file_long (codes "lines")) (file_short (codes "lines"))
    (FitsBy (one_file lines)) (bad_fits (one_file lines))
    lines [] None 1 [] file_taken 2 refl (λ t. (refl, tt)) refl (λ path. refl) (λ path. (refl, refl)) (λ path t. (refl, refl)) (λ path. refl)
    (λ path. (refl, tt)) (λ path word. (refl, tt)) rest

-- ---- `migrate`

abbrev migrate_shape : Shape
migrate_shape = built migrate_app

migrate_long : (n : Text) → arg_by_long migrate_shape.rules n ≡ long_flag n
migrate_long n = knows_flags (bytes_eq (codes "help") n) (bytes_eq (codes "version") n)

migrate_short : (x : ℕ) → arg_by_short migrate_shape.rules x ≡ short_flag x
migrate_short x = knows_flags (104 == x) (86 == x)

abbrev old_taken : Text → Option (Text × List Text)
old_taken old = Some (codes "OLD", old ∷ [])

abbrev new_taken : Text → Text × List Text
new_taken new = (codes "NEW", new ∷ [])

abbrev old_rows : Text → List Row
old_rows old = settled_rows migrate_shape.rules (old_taken old) []

abbrev MigrateGoes : Asked → Walk → List Text → Type 0
MigrateGoes a w words = Goes migrate_shape migrate_long migrate_short (FitsBy migrate_by) (bad_fits migrate_by) a w words

-- OLD was taken
module _ (old : Text) where
  new_goes : (words : List Text) → MigrateGoes (asked_after_command (migrate old) words) (at [] (old_taken old) 2 false) words
  unfolding defaults_fault walked
  new_goes words = command_goes migrate_shape migrate_long migrate_short (FitsBy migrate_by) (bad_fits migrate_by)
      (migrate old) [] (old_taken old) 2 (old_rows old) new_taken 3 refl (λ t. (refl, tt)) refl (λ path. refl) (λ path. (refl, refl)) (λ path t. (refl, refl)) (λ path. refl)
      (λ path. (refl, tt)) (λ path word. (refl, tt)) words

  new_after_dashes : (words : List Text) → MigrateGoes (asked_after_dashes (migrate old) words) (at [] (old_taken old) 2 true) words
  unfolding defaults_fault walked
  new_after_dashes words = after_dashes migrate_shape migrate_long migrate_short (FitsBy migrate_by) (bad_fits migrate_by)
      (migrate old) [] (old_taken old) 2 (old_rows old) new_taken 3 refl (λ t. (refl, tt)) refl (λ path. refl) (λ path. (refl, refl)) (λ path t. (refl, refl)) (λ path. refl)
      (λ path. (refl, tt)) (λ path word. (refl, tt)) words

migrate_lacks : (t : Bool) → MigrateGoes fault (at [] None 1 t) []
unfolding defaults_fault
migrate_lacks t = lacks migrate_shape migrate_long migrate_short (FitsBy migrate_by) (bad_fits migrate_by) (at [] None 1 t) (refl, tt)

old_after_dashes : (words : List Text) → MigrateGoes (asked_after_migrate_dashes words) (at [] None 1 true) words
unfolding walked
old_after_dashes [] = migrate_lacks true
old_after_dashes (old ∷ rest) = go_on migrate_shape migrate_long migrate_short (FitsBy migrate_by) (bad_fits migrate_by)
    (asked_after_dashes (migrate old) rest) (at [] None 1 true) (at [] (old_taken old) 2 true) old rest refl refl (new_after_dashes old rest)

migrate_goes : (words : List Text) → MigrateGoes (asked_after_migrate words) (at [] None 1 false) words
migrate_goes [] = migrate_lacks false
migrate_goes (word ∷ rest) = by_dashes (ends_flags word) refl
  where
    by_flag : ends_flags word ≡ false → (t : Bool) → is_flag word ≡ t
        → MigrateGoes (if t then asked_by_stray word else asked_after_command (migrate word) rest) (at [] None 1 false) (word ∷ rest)
    by_flag other true flag = flagged migrate_shape migrate_long migrate_short (FitsBy migrate_by) (bad_fits migrate_by) [] None 1 word rest refl other flag
    by_flag other false plain = take_plain migrate_shape migrate_long migrate_short (FitsBy migrate_by) (bad_fits migrate_by) [] None 1
        (asked_after_command (migrate word) rest) (at [] (old_taken word) 2 false) word rest refl refl other plain (new_goes word rest)

    by_dashes : (t : Bool) → ends_flags word ≡ t
        → MigrateGoes (if t then asked_after_migrate_dashes rest else (if is_flag word then asked_by_stray word else asked_after_command (migrate word) rest))
        (at [] None 1 false) (word ∷ rest)
    by_dashes true dashed = dashes migrate_shape migrate_long migrate_short (FitsBy migrate_by) (bad_fits migrate_by) [] None 1
        (asked_after_migrate_dashes rest) word rest dashed (old_after_dashes rest)
    by_dashes false other = by_flag other (is_flag word) refl

entered_migrate : (rest : List Text) → Whole (asked_after_migrate rest) [] (met (codes "migrate") rest)
unfolding defaults_fault
entered_migrate rest = migrate_goes rest

-- ---- whatever command was met

module _ (a : Asked) (name : Text) (rest : List Text) (here : Whole a [] (met name rest)) where
  met_reads : Whole a (walk_fault top names (met name []) rest) (fold (walked top.rules names) (met name []) rest)
  met_reads = subst (λ (w : Walk). Whole a (walk_fault top names (met name []) rest) w) (walk_stopped top.rules names first name [] rest)
      (subst (λ (ks : Kinds). Whole a ks (met name rest)) (sym (no_faults name [] rest)) here)

format_reads : (rest : List Text) → Reads (asked_after_command format rest) first (codes "format" ∷ rest)
unfolding walk_fault walked
format_reads rest = met_reads (asked_after_command format rest) (codes "format") rest (entered_format rest)

lines_reads : (rest : List Text) → Reads (asked_after_command lines rest) first (codes "lines" ∷ rest)
unfolding walk_fault walked
lines_reads rest = met_reads (asked_after_command lines rest) (codes "lines") rest (entered_lines rest)

migrate_reads : (rest : List Text) → Reads (asked_after_migrate rest) first (codes "migrate" ∷ rest)
unfolding walk_fault walked
migrate_reads rest = met_reads (asked_after_migrate rest) (codes "migrate") rest (entered_migrate rest)

-- ---- no command is met

dashes_read : (rest : List Text) → Reads (asked_by_stray (codes "--")) first (codes "--" ∷ rest)
unfolding walk_fault walked defaults_fault chars
dashes_read [] = (refl, tt)
dashes_read (word ∷ rest) = (refl, (refl, tt))

top_long : (n : Text) → arg_by_long top.rules n ≡ long_flag n
top_long n = knows_flags (bytes_eq (codes "help") n) (bytes_eq (codes "version") n)

top_short : (x : ℕ) → arg_by_short top.rules x ≡ short_flag x
top_short x = knows_flags (104 == x) (86 == x)

no_command : (word : Text) → bytes_eq word (codes "format") ≡ false → bytes_eq word (codes "lines") ≡ false → bytes_eq word (codes "migrate") ≡ false
    → subcommand_met names idle word ≡ None
no_command word no_format no_lines no_migrate =
    let not_format = flip word (codes "format") no_format in
    let not_lines = flip word (codes "lines") no_lines in
    let not_migrate = flip word (codes "migrate") no_migrate in
    rw (not_format, not_lines, not_migrate) refl

module _ (word : Text) (rest : List Text) (unmet : subcommand_met names idle word ≡ None) where
  flag_reads : ends_flags word ≡ false → (t : Bool) → is_flag word ≡ t → Reads (asked_by_stray word) first (word ∷ rest)
  flag_reads other true flag = subst (λ (a : Asked). Reads a first (word ∷ rest)) (sym (by_status word))
      (fails (status_of word) first word rest (turn_flag top names top_long top_short [] None 1 word unmet refl other flag))
  flag_reads other false plain =
      let turn = turn_plain top names top_long top_short [] None 1 word unmet other plain in
      let untold : asked_by_stray word ≡ fault = rw (asks_nothing word plain) refl in
      let stray : Shows 2 (turn_fault top names first word) = subst (λ (ks : Kinds). Shows 2 ks) (sym turn.0) (refl, (refl, tt)) in
      subst (λ (a : Asked). Reads a first (word ∷ rest)) (sym untold) (fails 2 first word rest stray)

  other_reads : (t : Bool) → ends_flags word ≡ t → Reads (asked_by_stray word) first (word ∷ rest)
  other_reads true ends = subst (λ (w : Text). Reads (asked_by_stray w) first (w ∷ rest)) (sym ((bytes_eq-Decides word (codes "--")).0 ends)) (dashes_read rest)
  other_reads false other = flag_reads other (is_flag word) refl

words_read : (words : List Text) → Reads (asked words) first words
unfolding walk_fault defaults_fault
words_read [] = (refl, tt)
words_read (word ∷ rest) = by_format (bytes_eq word (codes "format")) refl
  where
    by_migrate : bytes_eq word (codes "format") ≡ false → bytes_eq word (codes "lines") ≡ false → (t : Bool) → bytes_eq word (codes "migrate") ≡ t
        → Reads (if t then asked_after_migrate rest else asked_by_stray word) first (word ∷ rest)
    by_migrate no_format no_lines true hit = subst (λ (w : Text). Reads (asked_after_migrate rest) first (w ∷ rest)) (sym ((bytes_eq-Decides word (codes "migrate")).0 hit)) (migrate_reads rest)
    by_migrate no_format no_lines false no_migrate = other_reads word rest (no_command word no_format no_lines no_migrate) (ends_flags word) refl

    by_lines : bytes_eq word (codes "format") ≡ false → (t : Bool) → bytes_eq word (codes "lines") ≡ t
        → Reads (if t then asked_after_command lines rest else (if bytes_eq word (codes "migrate") then asked_after_migrate rest else asked_by_stray word)) first (word ∷ rest)
    by_lines no_format true hit = subst (λ (w : Text). Reads (asked_after_command lines rest) first (w ∷ rest)) (sym ((bytes_eq-Decides word (codes "lines")).0 hit)) (lines_reads rest)
    by_lines no_format false no_lines = by_migrate no_format no_lines (bytes_eq word (codes "migrate")) refl

    by_format : (t : Bool) → bytes_eq word (codes "format") ≡ t
        → Reads (if t then asked_after_command format rest
        else (if bytes_eq word (codes "lines") then asked_after_command lines rest else (if bytes_eq word (codes "migrate") then asked_after_migrate rest else asked_by_stray word)))
        first (word ∷ rest)
    by_format true hit = subst (λ (w : Text). Reads (asked_after_command format rest) first (w ∷ rest)) (sym ((bytes_eq-Decides word (codes "format")).0 hit)) (format_reads rest)
    by_format false no_format = by_lines no_format (bytes_eq word (codes "lines")) refl

-- ---- what the functions cite

pub is_free_app : is_simple_and_free watchmand_app ≡ true
is_free_app = refl

-- clap's parse of the words gives what they ask for
pub watchmand_reads : (words : List Text) → Gives (asked words) (fault_of watchmand_app words) (asked_by_matches (subcommand_of watchmand_app words))
watchmand_reads words = words_read words

pub some_same : {X : Type 0} (x y : X) → Some x ≡ Some y → x ≡ y
some_same x y same = ap (λ o. unwrap_or o x) same

-- where no kind may come, the matches say what the words ask for
gives_met : (a : Asked) (ks : Kinds) (met : Option Asked) → Gives a ks met → ks ≡ [] → met ≡ Some a
gives_met (format file) ks met gives none = gives.1
gives_met (lines file) ks met gives none = gives.1
gives_met (migrate old new) ks met gives none = gives.1
gives_met (shown status) ks met gives none = absurd (subst (λ (k : Kinds). Shows status k) none gives)

all_show : (status : ℕ) (k : ErrorKind) (ks : Kinds) → AllShow status ks → IsAmong k ks → status_for k ≡ Some status
all_show status k [] shows among = absurd among
all_show status k (x ∷ xs) shows (inl same) = subst (λ (y : ErrorKind). status_for y ≡ Some status) (sym same) shows.0
all_show status k (x ∷ xs) shows (inr among) = all_show status k xs shows.1 among

among_show : (status : ℕ) (k : ErrorKind) (ks : Kinds) → Shows status ks → IsAmong k ks → status_for k ≡ Some status
among_show status k [] shows among = absurd shows
among_show status k (x ∷ xs) shows among = all_show status k (x ∷ xs) shows among

-- the status of a kind that may come is what the words ask for
gives_shown : (a : Asked) (ks : Kinds) (met : Option Asked) (k : ErrorKind) (status : ℕ) → Gives a ks met → IsAmong k ks → status_for k ≡ Some status → shown status ≡ a
gives_shown (format file) ks met k status gives among is = absurd (subst (λ (l : Kinds). IsAmong k l) gives.0 among)
gives_shown (lines file) ks met k status gives among is = absurd (subst (λ (l : Kinds). IsAmong k l) gives.0 among)
gives_shown (migrate old new) ks met k status gives among is = absurd (subst (λ (l : Kinds). IsAmong k l) gives.0 among)
gives_shown (shown wanted) ks met k status gives among is = ap shown (some_same status wanted (sym is ∙ among_show wanted k ks gives among))

-- what a parse of the words that ended well met
pub parse_asked : (app : App) (words : List Text) (m : ArgMatches) → app ≡ watchmand_app → IsParseOf app words m → asked_by_matches (subcommand_rows_of m) ≡ Some (asked words)
parse_asked app words m same parse =
    let P : App → Type 0 = λ a. IsParseOf a words m in
    let at : P watchmand_app = subst P same parse in
    ap asked_by_matches at.2 ∙ gives_met (asked words) (fault_of watchmand_app words) _ (watchmand_reads words) at.0

-- what a parse of the words that failed shows
pub shown_asked : (app : App) (words : List Text) (status : ℕ) → app ≡ watchmand_app → MayShow app words status → shown status ≡ asked words
shown_asked app words status same may =
    let P : App → Type 0 = λ a. MayShow a words status in
    let at : P watchmand_app = subst P same may in
    gives_shown (asked words) (fault_of watchmand_app words) _ at.0 status (watchmand_reads words) at.1 at.2

-- ---- the subcommand of the matches

abbrev pub made_by : Text → Text → Asked
made_by name file = if bytes_eq name (codes "format") then format file else lines file

abbrev by_name : Bool → Text → List Row → Option Asked
by_name is_migrate name rows = if is_migrate then migrate_by rows else option_map (made_by name) (first_of (codes "FILE") rows)

-- what is asked for, if the subcommand isn't `migrate`, by its FILE
pub asked_by_file : (met : Option (Text × List Row)) (name : Text) (rows : List Row) (file : Option Text) → Some (name, rows) ≡ met
    → file ≡ first_of (codes "FILE") rows → bytes_eq name (codes "migrate") ≡ false → asked_by_matches met ≡ option_map (made_by name) file
asked_by_file met name rows file met_is file_is other =
    ap asked_by_matches (sym met_is) ∙ ap (λ t. by_name t name rows) other ∙ ap (option_map (made_by name)) (sym file_is)

-- what is asked for, if the subcommand is `migrate`
pub asked_by_migrate : (met : Option (Text × List Row)) (name : Text) (rows : List Row) → Some (name, rows) ≡ met
    → bytes_eq name (codes "migrate") ≡ true → asked_by_matches met ≡ migrate_by rows
asked_by_migrate met name rows met_is hit = ap asked_by_matches (sym met_is) ∙ ap (λ t. by_name t name rows) hit

-- what `migrate` asks for, by its OLD and NEW
pub migrate_by_parts : (rows : List Row) (old new : Option Text) → old ≡ first_of (codes "OLD") rows → new ≡ first_of (codes "NEW") rows
    → migrate_by rows ≡ option_and_then (λ o. option_map (migrate o) new) old
migrate_by_parts rows old new old_is new_is =
    ap₂ (λ (o n : Option Text). option_and_then (λ p. option_map (migrate p) n) o) (sym old_is) (sym new_is)
