-- What clap makes of one word, where a command has the flags of help and of the version, and no others.
use Rattle.std.proofs.Common.{◌≡◌, ◌∙◌, ◌+◌, ℕ, Bool, true, false, List, [], ◌∷◌, Option, Some, None, inl, inr, refl, sym, ap, subst, true≢false, codes, is_some, length, arith, suc}
use Rattle.std.proofs.lemmas.Bool.{cases_Bool, eq-eqb, eqb-true}
use Rattle.std.proofs.lemmas.Slice.Eq.{bytes_eq-Decides}
use Rattle.std.specs.List.{before_first, after_first, position_or_len}
use Rattle.std.specs.Option.{option_map_or}
use Rattle.std.specs.Prelude.{◌==◌, ◌||◌, if◌then◌else◌, slice_get, ⊤}
use Rattle.std.specs.Str.{bytes_eq, chars}
use Rattle.clap.specs.Lexer.{long_of, has_byte, short_of}
use Rattle.clap.specs.Faults.{bundle_fault, bundle_step_fault, flag_word_fault, settle_fault, long_fault, flags_fault, step_fault, turn_fault}
use Rattle.clap.specs.Kinds.{Kinds, or_else}
use Rattle.clap.specs.Simple.{Shape, help_rule, version_rule, filled}
use Rattle.clap.specs.Walk.{Held, Names, Row, Rule, Text, Walk, after_step, arg_by_long, arg_by_short, bundle_met, idle, long_or_other, subcommand_met, value, walked}
use Rattle.wm_arguments.specs.Parses.{status_for}
use Rattle.wm_server.specs.program.Words.{asked_by_stray, asks_to_tell, ends_flags, fault, flag_of, is_flag, shown, shown_as_asked}

-- ---- tests

pub flip : (xs ys : Text) → bytes_eq xs ys ≡ false → bytes_eq ys xs ≡ false
flip xs ys miss = elim (cases_Bool (bytes_eq ys xs)) [
  | inl hit ↦ absurd (true≢false (sym ((bytes_eq-Decides xs ys).1 (sym ((bytes_eq-Decides ys xs).0 hit))) ∙ miss))
  | inr e ↦ e
]

flip_nat : (x y : ℕ) → (x == y) ≡ false → (y == x) ≡ false
flip_nat x y miss = elim (cases_Bool (y == x)) [
  | inl hit ↦ let same : y ≡ x = eqb-true y x hit in absurd (true≢false (sym (subst (λ (z : ℕ). (x == z) ≡ true) (sym same) (eq-eqb x x refl)) ∙ miss))
  | inr e ↦ e
]

or_false : (a b : Bool) → (a || b) ≡ false → (a ≡ false) × (b ≡ false)
or_false true b e = absurd (true≢false e)
or_false false b e = (refl, e)

not_some : {X : Type 0} (o : Option X) → is_some o ≡ false → o ≡ None
not_some None e = refl
not_some (Some x) e = absurd (true≢false e)

-- ---- kinds that show one thing

abbrev pub AllShow : ℕ → Kinds → Type 0
AllShow status [] = ⊤
AllShow status (k ∷ ks) = (status_for k ≡ Some status) × AllShow status ks

-- there is a kind, and each shows a text with this status
abbrev pub Shows : ℕ → Kinds → Type 0
Shows status [] = ⊥
Shows status (k ∷ ks) = (status_for k ≡ Some status) × AllShow status ks

pub or_else-Shows : (status : ℕ) (ks next : Kinds) → Shows status ks → Shows status (or_else ks next)
or_else-Shows status [] next shows = absurd shows
or_else-Shows status (k ∷ ks) next shows = shows

-- ---- a flag

abbrev pub help_arg : Rule
help_arg = filled help_rule

abbrev pub version_arg : Rule
version_arg = filled version_rule

-- the flag with this name, by whether it is that of help and whether it is that of the version
abbrev pub flag_by : Bool → Bool → Option Rule
flag_by is_help is_version = if is_help then Some help_arg else (if is_version then Some version_arg else None)

abbrev pub long_flag : Text → Option Rule
long_flag name = flag_by (bytes_eq (codes "help") name) (bytes_eq (codes "version") name)

abbrev pub short_flag : ℕ → Option Rule
short_flag x = flag_by (104 == x) (86 == x)

abbrev pub status_of : Text → ℕ
status_of word = if asks_to_tell word then 0 else 2

pub by_status : (word : Text) → asked_by_stray word ≡ shown (status_of word)
by_status word = go (asks_to_tell word)
  where
    go : (b : Bool) → (if b then shown_as_asked else fault) ≡ shown (if b then 0 else 2)
    go true = refl
    go false = refl

before_all : (xs : Text) → has_byte 61 xs ≡ false → before_first (λ x. x == 61) xs ≡ xs
before_all [] miss = refl
before_all (x ∷ xs) miss =
    let parts = or_false (x == 61) (has_byte 61 xs) miss in
    let next : 1 + position_or_len (λ y. y == 61) xs ≡ suc (position_or_len (λ y. y == 61) xs) = omega arith in
    rw (parts.0, next) (ap (λ (ys : Text). x ∷ ys) (before_all xs parts.1))

-- ---- how clap reads a word's head

not_dashed : (b : ℕ) (rest : Text) → (b == 45) ≡ false → (long_of (b ∷ rest) ≡ None) × (short_of (b ∷ rest) ≡ None)
not_dashed b rest miss = (rw miss refl, rw miss refl)

once_dashed : (x : ℕ) (xs : Text) → (x == 45) ≡ false → (long_of (45 ∷ x ∷ xs) ≡ None) × (short_of (45 ∷ x ∷ xs) ≡ Some (x ∷ xs))
once_dashed x xs miss = (rw miss refl, rw miss refl)

abbrev pub held : List Row → Option (Text × List Text) → Held
held rows pending = record { rows = rows; pending = pending; skip = 0 }

-- the rules have these flags, and no others
module _ (c : List Rule) (again : Bool)
    (long : (name : Text) → arg_by_long c name ≡ long_flag name)
    (short : (x : ℕ) → arg_by_short c x ≡ short_flag x)
    (rows : List Row) (pending : Option (Text × List Text)) where
  long_other : (name : Text) (v : Option Text) → bytes_eq (codes "help") name ≡ false → bytes_eq (codes "version") name ≡ false
      → Shows 2 (long_fault c again (arg_by_long c name) v (held rows pending))
  long_other name v no_help no_version = rw (long name, no_help, no_version) (refl, tt)

  long_valued : (name v : Text) → Shows 2 (long_fault c again (arg_by_long c name) (Some v) (held rows pending))
  long_valued name v = rw (long name) (go (bytes_eq (codes "help") name) (bytes_eq (codes "version") name))
    where
      go : (b d : Bool) → Shows 2 (long_fault c again (flag_by b d) (Some v) (held rows pending))
      go true d = (refl, tt)
      go false true = (refl, tt)
      go false false = (refl, tt)

  module _ (clean : settle_fault c again (held rows pending) ≡ []) where
    abbrev Answered : Text → Type 0
    Answered word = Shows (status_of word) (flag_word_fault c again (long_of word) word (held rows pending))

    long_help : Answered (45 ∷ 45 ∷ codes "help")
    unfolding chars
    long_help = rw (long (codes "help"), clean) (refl, tt)

    long_version : Answered (45 ∷ 45 ∷ codes "version")
    unfolding chars
    long_version = rw (long (codes "version"), clean) (refl, tt)

    long_word : (x : ℕ) (xs : Text) → Answered (45 ∷ 45 ∷ x ∷ xs)
    unfolding chars
    long_word x xs = elim (cases_Bool (bytes_eq (x ∷ xs) (codes "help"))) [
      | inl hit ↦ subst (λ (w : Text). Answered (45 ∷ 45 ∷ w)) (sym ((bytes_eq-Decides (x ∷ xs) (codes "help")).0 hit)) long_help
      | inr no_help ↦ elim (cases_Bool (bytes_eq (x ∷ xs) (codes "version"))) [
        | inl hit ↦ subst (λ (w : Text). Answered (45 ∷ 45 ∷ w)) (sym ((bytes_eq-Decides (x ∷ xs) (codes "version")).0 hit)) long_version
        | inr no_version ↦ rw (no_help, no_version) (go no_help no_version (has_byte 61 (x ∷ xs)) refl)
      ]
    ]
      where
        go : bytes_eq (x ∷ xs) (codes "help") ≡ false → bytes_eq (x ∷ xs) (codes "version") ≡ false → (b : Bool) → has_byte 61 (x ∷ xs) ≡ b
            → Shows 2 (long_fault c again (arg_by_long c (before_first (λ y. y == 61) (x ∷ xs)))
            (if b then Some (after_first (λ y. y == 61) (x ∷ xs)) else None) (held rows pending))
        go no_help no_version true e = long_valued _ _
        go no_help no_version false e = subst (λ (n : Text). Shows 2 (long_fault c again (arg_by_long c n) None (held rows pending)))
            (sym (before_all (x ∷ xs) e)) (long_other (x ∷ xs) None (flip (x ∷ xs) (codes "help") no_help) (flip (x ∷ xs) (codes "version") no_version))

    abbrev Bundled : ℕ → ℕ → Text → Type 0
    Bundled y x xs = Shows (if y == 104 || y == 86 then 0 else 2)
        (bundle_step_fault c again (Some y) (x ∷ xs) 0 (held rows pending) (flags_fault c again (length xs)))

    short_char : (y x : ℕ) (xs : Text) → Bundled y x xs
    short_char y x xs = elim (cases_Bool (y == 104)) [
      | inl hit ↦ subst (λ (z : ℕ). Bundled z x xs) (sym (eqb-true y 104 hit)) (rw (short 104, clean) (refl, tt))
      | inr no_help ↦ elim (cases_Bool (y == 86)) [
        | inl hit ↦ subst (λ (z : ℕ). Bundled z x xs) (sym (eqb-true y 86 hit)) (rw (short 86, clean) (refl, tt))
        | inr no_version ↦ rw (no_help, no_version, short y, flip_nat y 104 no_help, flip_nat y 86 no_version) (refl, tt)
      ]
    ]

    short_word : (x : ℕ) (xs : Text) → (x == 45) ≡ false → is_flag (45 ∷ x ∷ xs) ≡ true → Answered (45 ∷ x ∷ xs)
    unfolding flags_fault
    short_word x xs miss flag =
        let read = once_dashed x xs miss in
        let bundled : flag_word_fault c again (long_of (45 ∷ x ∷ xs)) (45 ∷ x ∷ xs) (held rows pending) ≡ bundle_fault c again (x ∷ xs) (held rows pending) =
        ap (λ o. flag_word_fault c again o (45 ∷ x ∷ xs) (held rows pending)) read.0
        ∙ ap (λ o. option_map_or (λ flags. bundle_fault c again flags (held rows pending)) o []) read.1 in
        let status : status_of (45 ∷ x ∷ xs) ≡ (if option_map_or (λ y. y == 104 || y == 86) (slice_get (chars (x ∷ xs)) 0) false then 0 else 2) = rw miss refl in
        subst (λ (ks : Kinds). Shows (status_of (45 ∷ x ∷ xs)) ks) (sym bundled)
        (subst (λ (n : ℕ). Shows n (bundle_fault c again (x ∷ xs) (held rows pending))) (sym status) (go (slice_get (chars (x ∷ xs)) 0) flag))
      where
        go : (o : Option ℕ) → is_some o ≡ true → Shows (if option_map_or (λ y. y == 104 || y == 86) o false then 0 else 2)
            (bundle_step_fault c again o (x ∷ xs) 0 (held rows pending) (flags_fault c again (length xs)))
        go None e = absurd (true≢false (sym e))
        go (Some y) e = short_char y x xs

    flag_45 : (rest : Text) → ends_flags (45 ∷ rest) ≡ false → is_flag (45 ∷ rest) ≡ true → Answered (45 ∷ rest)
    unfolding chars
    flag_45 [] other flag = absurd (true≢false (sym flag))
    flag_45 (x ∷ xs) other flag = elim (cases_Bool (x == 45)) [
      | inl hit ↦ subst (λ (y : ℕ). ends_flags (45 ∷ y ∷ xs) ≡ false → Answered (45 ∷ y ∷ xs)) (sym (eqb-true x 45 hit)) (both xs) other
      | inr miss ↦ short_word x xs miss flag
    ]
      where
        both : (ys : Text) → ends_flags (45 ∷ 45 ∷ ys) ≡ false → Answered (45 ∷ 45 ∷ ys)
        both [] ends = absurd (true≢false ends)
        both (y ∷ ys) ends = long_word y ys

    -- a flag that isn't `--` is answered by its text or by a fault
    flag_answered : (word : Text) → ends_flags word ≡ false → is_flag word ≡ true → Answered word
    flag_answered [] other flag = absurd (true≢false (sym flag))
    flag_answered (b ∷ rest) other flag = go (b == 45) refl
      where
        go : (t : Bool) → (b == 45) ≡ t → Answered (b ∷ rest)
        go true hit = subst (λ (x : ℕ). ends_flags (x ∷ rest) ≡ false → is_flag (x ∷ rest) ≡ true → Answered (x ∷ rest))
            (sym (eqb-true b 45 hit)) (flag_45 rest) other flag
        go false miss = absurd (true≢false (sym flag ∙ rw miss refl))

  abbrev IsPlain : Text → Type 0
  IsPlain word = (long_or_other c idle word (long_of word) (held rows pending) ≡ (held rows pending, value))
      × (flag_word_fault c again (long_of word) word (held rows pending) ≡ [])

  two_dashes : (ys : Text) → ends_flags (45 ∷ 45 ∷ ys) ≡ false → is_flag (45 ∷ 45 ∷ ys) ≡ false → ⊥
  unfolding chars
  two_dashes [] ends flag = true≢false ends
  two_dashes (y ∷ ys) ends flag = true≢false flag

  -- the word has no hyphen before anything else
  undashed : (word : Text) → long_of word ≡ None → short_of word ≡ None → IsPlain word
  undashed word long_none short_none = rw (long_none, short_none) (refl, refl)

  -- nothing can be read of what stands after the hyphen
  unread : (word : Text) (x : ℕ) (xs : Text) → long_of word ≡ None → short_of word ≡ Some (x ∷ xs)
      → slice_get (chars (x ∷ xs)) 0 ≡ None → IsPlain word
  unfolding bundle_met flags_fault
  unread word x xs long_none short_some none = rw (long_none, short_some, none) (refl, refl)

  plain_45 : (rest : Text) → ends_flags (45 ∷ rest) ≡ false → is_flag (45 ∷ rest) ≡ false → IsPlain (45 ∷ rest)
  plain_45 [] other plain = (refl, refl)
  plain_45 (x ∷ xs) other plain = elim (cases_Bool (x == 45)) [
    | inl hit ↦ absurd (subst (λ (y : ℕ). ends_flags (45 ∷ y ∷ xs) ≡ false → is_flag (45 ∷ y ∷ xs) ≡ false → ⊥) (sym (eqb-true x 45 hit)) (λ o p. two_dashes xs o p) other plain)
    | inr miss ↦ let read = once_dashed x xs miss in unread (45 ∷ x ∷ xs) x xs read.0 read.1 (not_some _ plain)
  ]

  -- a word that is no flag is a value
  plain_is : (word : Text) → ends_flags word ≡ false → is_flag word ≡ false → IsPlain word
  plain_is [] other plain = (refl, refl)
  plain_is (b ∷ rest) other plain = go (b == 45) refl
    where
      go : (t : Bool) → (b == 45) ≡ t → IsPlain (b ∷ rest)
      go true hit = subst (λ (x : ℕ). ends_flags (x ∷ rest) ≡ false → is_flag (x ∷ rest) ≡ false → IsPlain (x ∷ rest))
          (sym (eqb-true b 45 hit)) (plain_45 rest) other plain
      go false miss = let read = not_dashed b rest miss in undashed (b ∷ rest) read.0 read.1

-- a word that is no flag asks for nothing to be told
help_is_flag : is_flag (codes "--help") ≡ false → ⊥
unfolding chars
help_is_flag flag = true≢false flag

version_is_flag : is_flag (codes "--version") ≡ false → ⊥
unfolding chars
version_is_flag flag = true≢false flag

pub asks_nothing : (word : Text) → is_flag word ≡ false → asks_to_tell word ≡ false
asks_nothing word plain = elim (cases_Bool (bytes_eq word (codes "--help"))) [
  | inl hit ↦ absurd (subst (λ (w : Text). is_flag w ≡ false → ⊥) (sym ((bytes_eq-Decides word (codes "--help")).0 hit)) help_is_flag plain)
  | inr no_help ↦ elim (cases_Bool (bytes_eq word (codes "--version"))) [
    | inl hit ↦ absurd (subst (λ (w : Text). is_flag w ≡ false → ⊥) (sym ((bytes_eq-Decides word (codes "--version")).0 hit)) version_is_flag plain)
    | inr no_version ↦ let none : flag_of word ≡ None = not_some _ plain in rw (no_help, no_version, none) refl
  ]
]

-- ---- one word

abbrev pub at : List Row → Option (Text × List Text) → ℕ → Bool → Walk
at rows pending position is_trailing = record {
  held = held rows pending;
  waiting = idle;
  position = position;
  is_trailing = is_trailing;
  stopped = None;
}

module _ (s : Shape) (names : Names)
    (long : (name : Text) → arg_by_long s.rules name ≡ long_flag name)
    (short : (x : ℕ) → arg_by_short s.rules x ≡ short_flag x)
    (rows : List Row) (pending : Option (Text × List Text)) (position : ℕ) (word : Text)
    (unmet : subcommand_met names idle word ≡ None) where
  abbrev now : Walk
  now = at rows pending position false

  pub turn_dashes : ends_flags word ≡ true
      → (turn_fault s names now word ≡ []) × (walked s.rules names now word ≡ at rows pending position true)
  unfolding walked
  turn_dashes ends = rw (unmet, ends) (refl, refl)

  pub turn_flag : settle_fault s.rules s.args_override_self (held rows pending) ≡ [] → ends_flags word ≡ false → is_flag word ≡ true
      → Shows (status_of word) (turn_fault s names now word)
  turn_flag clean other flag = rw (unmet, other)
      (or_else-Shows (status_of word) _ _ (flag_answered s.rules s.args_override_self long short rows pending clean word other flag))

  pub turn_plain : ends_flags word ≡ false → is_flag word ≡ false
      → (turn_fault s names now word ≡ step_fault s position (held rows pending) value)
      × (walked s.rules names now word ≡ after_step s.rules word now (held rows pending) value)
  unfolding walked
  turn_plain other plain =
      let both = plain_is s.rules s.args_override_self long short rows pending word other plain in
      rw (unmet, other, both.0, both.1) (refl, refl)
