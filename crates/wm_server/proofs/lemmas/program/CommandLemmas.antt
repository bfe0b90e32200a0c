-- What clap makes of the words after a command.
use Rattle.std.proofs.Common.{◌≡◌, ◌∙◌, ℕ, Bool, true, false, List, [], ◌∷◌, Option, Some, refl, sym, subst}
use Rattle.std.specs.List.{fold}
use Rattle.std.specs.Prelude.{◌||◌, if◌then◌else◌}
use Rattle.clap.specs.Faults.{check_fault, settle_fault, step_fault, walk_fault, defaults_fault, turn_fault}
use Rattle.clap.specs.Kinds.{Kinds, or_else}
use Rattle.clap.specs.Simple.{App, Shape, built_leaf, inherited, marked_built}
use Rattle.clap.specs.Walk.{Row, Text, Walk, arg_by_long, arg_by_short, finished, settled, value, after_step, walked}
use Rattle.wm_server.specs.program.Words.{Asked, asked_after_dashes, asked_after_file, asked_by_stray, asked_after_command, bare_app, ends_flags, fault, is_flag, shown}
use Rattle.wm_server.proofs.lemmas.program.OneWordLemmas.{Shows, asks_nothing, at, by_status, flag_by, held, long_flag, or_else-Shows, short_flag, status_of, turn_dashes, turn_flag, turn_plain}

abbrev pub above : Shape
above = record (marked_built bare_app.top) { is_leaf = false }

-- a command as built
abbrev pub built : App → Shape
built app = built_leaf (inherited above app.top)

-- one level of a parse, by the faults of its words and where its walk ends
abbrev pub level_of : Shape → Kinds → Walk → Bool → Kinds → Kinds
level_of s faults end has_subcommand below = or_else faults (or_else below
    (or_else (settle_fault s.rules s.args_override_self end.held)
    (or_else (defaults_fault (settled s.rules end.held).rows s.rules)
    (check_fault s (finished s.rules end.held) has_subcommand))))

pub knows_flags : (b d : Bool) → flag_by (b || false) (d || false) ≡ flag_by b d
knows_flags true d = refl
knows_flags false true = refl
knows_flags false false = refl

-- a command with the flags of help and of the version alone
module _ (s : Shape)
    (long : (name : Text) → arg_by_long s.rules name ≡ long_flag name)
    (short : (x : ℕ) → arg_by_short s.rules x ≡ short_flag x)
    (Fits : Asked → Kinds → List Row → Type 0)
    (bad : (status : ℕ) (ks : Kinds) (rows : List Row) → Shows status ks → Fits (shown status) ks rows) where
  abbrev pub Ends : Asked → Kinds → Walk → Type 0
  Ends a faults end = Fits a (level_of s faults end false []) (finished s.rules end.held)

  -- the words from here on come to a
  abbrev pub Goes : Asked → Walk → List Text → Type 0
  Goes a w words = Ends a (walk_fault s [] w words) (fold (walked s.rules []) w words)

  pub go_on : (a : Asked) (w after : Walk) (word : Text) (rest : List Text) → turn_fault s [] w word ≡ []
      → walked s.rules [] w word ≡ after → Goes a after rest → Goes a w (word ∷ rest)
  unfolding walk_fault
  go_on a w after word rest none step goes =
      subst (λ (v : Walk). Ends a (or_else (turn_fault s [] w word) (walk_fault s [] v rest)) (fold (walked s.rules []) v rest)) (sym step)
      (subst (λ (ks : Kinds). Ends a (or_else ks (walk_fault s [] after rest)) (fold (walked s.rules []) after rest)) (sym none) goes)

  stop : (status : ℕ) (w : Walk) (word : Text) (rest : List Text) → Shows status (turn_fault s [] w word)
      → Goes (shown status) w (word ∷ rest)
  unfolding walk_fault
  stop status w word rest shows = bad status _ _ (or_else-Shows status _ _ (or_else-Shows status _ _ shows))

  pub lacks : (w : Walk) → Shows 2 (level_of s [] w false []) → Goes fault w []
  unfolding walk_fault
  lacks w shows = bad 2 _ _ shows

  ends : (a : Asked) (w : Walk) → Ends a [] w → Goes a w []
  unfolding walk_fault
  ends a w end = end

  module _ (rows : List Row) (pending : Option (Text × List Text)) (position : ℕ) where
    pub dashes : (a : Asked) (word : Text) (rest : List Text) → ends_flags word ≡ true
        → Goes a (at rows pending position true) rest → Goes a (at rows pending position false) (word ∷ rest)
    dashes a word rest dashed goes =
        let turn = turn_dashes s [] long short rows pending position word refl dashed in
        go_on a (at rows pending position false) (at rows pending position true) word rest turn.0 turn.1 goes

    pub flagged : (word : Text) (rest : List Text) → settle_fault s.rules s.args_override_self (held rows pending) ≡ []
        → ends_flags word ≡ false → is_flag word ≡ true → Goes (asked_by_stray word) (at rows pending position false) (word ∷ rest)
    flagged word rest clean other flag =
        subst (λ (a : Asked). Goes a (at rows pending position false) (word ∷ rest)) (sym (by_status word))
        (stop (status_of word) (at rows pending position false) word rest
        (turn_flag s [] long short rows pending position word refl clean other flag))

    pub take_plain : (a : Asked) (after : Walk) (word : Text) (rest : List Text) → step_fault s position (held rows pending) value ≡ []
        → after_step s.rules word (at rows pending position false) (held rows pending) value ≡ after
        → ends_flags word ≡ false → is_flag word ≡ false → Goes a after rest → Goes a (at rows pending position false) (word ∷ rest)
    take_plain a after word rest none step other plain goes =
        let turn = turn_plain s [] long short rows pending position word refl other plain in
        go_on a (at rows pending position false) after word rest (turn.0 ∙ none) (turn.1 ∙ step) goes

    -- a word too many
    stray : (word : Text) (rest : List Text) → settle_fault s.rules s.args_override_self (held rows pending) ≡ []
        → Shows 2 (step_fault s position (held rows pending) value)
        → ends_flags word ≡ false → Goes (asked_by_stray word) (at rows pending position false) (word ∷ rest)
    stray word rest clean full other = go (is_flag word) refl
      where
        go : (t : Bool) → is_flag word ≡ t → Goes (asked_by_stray word) (at rows pending position false) (word ∷ rest)
        go true flag = flagged word rest clean other flag
        go false plain =
            let turn = turn_plain s [] long short rows pending position word refl other plain in
            let untold : asked_by_stray word ≡ fault = rw (asks_nothing word plain) refl in
            let shows : Shows 2 (turn_fault s [] (at rows pending position false) word) = subst (λ (ks : Kinds). Shows 2 ks) (sym turn.0) full in
            subst (λ (a : Asked). Goes a (at rows pending position false) (word ∷ rest)) (sym untold) (stop 2 (at rows pending position false) word rest shows)

  -- The command waits for its last path, at this position with this pending; with the path it stands at the next one.
  module _ (make : Text → Asked) (rows : List Row) (pending : Option (Text × List Text)) (position : ℕ)
      (after_rows : List Row) (taken : Text → Text × List Text) (after_position : ℕ)
      (clean : settle_fault s.rules s.args_override_self (held rows pending) ≡ [])
      (lacking : (t : Bool) → Shows 2 (level_of s [] (at rows pending position t) false []))
      (free : step_fault s position (held rows pending) value ≡ [])
      (step : (path : Text) → after_step s.rules path (at rows pending position false) (held rows pending) value ≡ at after_rows (Some (taken path)) after_position false)
      (trailing : (path : Text) → (turn_fault s [] (at rows pending position true) path ≡ []) × (walked s.rules [] (at rows pending position true) path ≡ at after_rows (Some (taken path)) after_position true))
      (whole : (path : Text) (t : Bool) → Ends (make path) [] (at after_rows (Some (taken path)) after_position t))
      (clean_after : (path : Text) → settle_fault s.rules s.args_override_self (held after_rows (Some (taken path))) ≡ [])
      (full : (path : Text) → Shows 2 (step_fault s after_position (held after_rows (Some (taken path))) value))
      (full_trailing : (path word : Text) → Shows 2 (turn_fault s [] (at after_rows (Some (taken path)) after_position true) word)) where
    abbrev start : Bool → Walk
    start is_trailing = at rows pending position is_trailing

    abbrev got : Text → Bool → Walk
    got path is_trailing = at after_rows (Some (taken path)) after_position is_trailing

    over : (path word : Text) (rest : List Text) → Goes fault (got path true) (word ∷ rest)
    over path word rest = stop 2 (got path true) word rest (full_trailing path word)

    take_trailing : (a : Asked) (path : Text) (rest : List Text) → Goes a (got path true) rest → Goes a (start true) (path ∷ rest)
    take_trailing a path rest goes = go_on a (start true) (got path true) path rest (trailing path).0 (trailing path).1 goes

    pub after_dashes : (words : List Text) → Goes (asked_after_dashes make words) (start true) words
    after_dashes [] = lacks (start true) (lacking true)
    after_dashes (path ∷ []) = take_trailing (make path) path [] (ends (make path) (got path true) (whole path true))
    after_dashes (path ∷ more ∷ rest) = take_trailing fault path (more ∷ rest) (over path more rest)

    second : (path word : Text) (rest : List Text) → ends_flags word ≡ false → Goes (asked_by_stray word) (got path false) (word ∷ rest)
    second path word rest other = stray after_rows (Some (taken path)) after_position word rest (clean_after path) (full path) other

    after_path : (path : Text) (words : List Text) → Goes (asked_after_file (make path) words) (got path false) words
    after_path path [] = ends (make path) (got path false) (whole path false)
    after_path path (word ∷ []) = go (ends_flags word) refl
      where
        go : (t : Bool) → ends_flags word ≡ t → Goes (if t then make path else asked_by_stray word) (got path false) (word ∷ [])
        go true dashed = dashes after_rows (Some (taken path)) after_position (make path) word [] dashed (ends (make path) (got path true) (whole path true))
        go false other = second path word [] other
    after_path path (word ∷ more ∷ rest) = go (ends_flags word) refl
      where
        go : (t : Bool) → ends_flags word ≡ t → Goes (if t then fault else asked_by_stray word) (got path false) (word ∷ more ∷ rest)
        go true dashed = dashes after_rows (Some (taken path)) after_position fault word (more ∷ rest) dashed (over path more rest)
        go false other = second path word (more ∷ rest) other

    -- the words from there on come to what `asked_after_command` says
    pub command_goes : (words : List Text) → Goes (asked_after_command make words) (start false) words
    command_goes [] = lacks (start false) (lacking false)
    command_goes (word ∷ rest) = by_dashes (ends_flags word) refl
      where
        by_flag : ends_flags word ≡ false → (t : Bool) → is_flag word ≡ t
            → Goes (if t then asked_by_stray word else asked_after_file (make word) rest) (start false) (word ∷ rest)
        by_flag other true flag = flagged rows pending position word rest clean other flag
        by_flag other false plain = take_plain rows pending position (asked_after_file (make word) rest) (got word false) word rest free (step word) other plain (after_path word rest)

        by_dashes : (t : Bool) → ends_flags word ≡ t
            → Goes (if t then asked_after_dashes make rest else (if is_flag word then asked_by_stray word else asked_after_file (make word) rest))
            (start false) (word ∷ rest)
        by_dashes true dashed = dashes rows pending position (asked_after_dashes make rest) word rest dashed (after_dashes rest)
        by_dashes false other = by_flag other (is_flag word) refl
