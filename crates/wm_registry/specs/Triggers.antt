-- Triggers, and the triggers of a root: each name is there once, in order of first definition.
use Rattle.std.specs.Prelude.{ℕ, Bool, true, false, ◌&&◌, List, [], ◌∷◌, ◌==◌, length, nat_lt, nat_le, if◌then◌else◌, Option, Some, None}
use Rattle.std.specs.List.{list_any, list_all}
use Rattle.std.specs.Str.{bytes_eq}
use Rattle.std.specs.Option.{option_eq}
use Rattle.std.specs.Cmp.Lexicographic.{pointwise}
use Rattle.wm_registry.specs.Endings.{is_file_count}
use Rattle.wm_registry.specs.Limits.{max_trigger_name, max_words, max_word, max_expression}
use Rattle.wm_registry.specs.declared.stdin.Stdin.{Stdin}
use Rattle.wm_registry.specs.declared.stdin.Stdin.TheVariants.{DevNull, NamePerLine}

-- what a trigger is defined by
pub record Definition : Type 0 where
  pub name : List ℕ
  pub command : List (List ℕ)
  pub expression : Option (List ℕ)
  pub append_files : Bool
  pub stdin : Stdin
  -- the most names that it tells the program by its standard input
  pub max_files_stdin : Option ℕ

-- the first word isn't empty
abbrev pub has_program : List (List ℕ) → Bool
has_program [] = false
has_program (word ∷ words) = nat_lt 0 (length word)

abbrev pub same_flag : Bool → Bool → Bool
same_flag true true = true
same_flag true false = false
same_flag false true = false
same_flag false false = true

abbrev pub same_stdin : Stdin → Stdin → Bool
same_stdin DevNull DevNull = true
same_stdin DevNull NamePerLine = false
same_stdin NamePerLine DevNull = false
same_stdin NamePerLine NamePerLine = true

-- an equal definition
abbrev pub same_definition : Definition → Definition → Bool
same_definition a b =
    bytes_eq a.name b.name && (pointwise bytes_eq a.command b.command && (option_eq bytes_eq a.expression b.expression
    && (same_flag a.append_files b.append_files && (same_stdin a.stdin b.stdin && option_eq ◌==◌ a.max_files_stdin b.max_files_stdin))))

-- the trigger has the name
abbrev pub is_named : List ℕ → Definition → Bool
is_named name trigger = bytes_eq name trigger.name

-- a trigger of that name is there
abbrev pub has_trigger : List ℕ → List Definition → Bool
has_trigger name triggers = list_any (is_named name) triggers

-- the triggers with this one: in the place of that of its name, or else last
abbrev pub defined : Definition → List Definition → List Definition
defined trigger [] = trigger ∷ []
defined trigger (old ∷ rest) = if is_named trigger.name old then trigger ∷ rest else old ∷ defined trigger rest

-- the triggers without that of the name
abbrev pub without : List ℕ → List Definition → List Definition
without name [] = []
without name (old ∷ rest) = if is_named name old then rest else old ∷ without name rest

-- ---- the rules, as tests

abbrev pub is_name : List ℕ → Bool
is_name text = nat_lt 0 (length text) && nat_le (length text) max_trigger_name

-- words, not too many and none too long, the first of them not empty
abbrev pub is_command : List (List ℕ) → Bool
is_command words = has_program words && (nat_le (length words) max_words && list_all (λ word. nat_le (length word) max_word) words)

-- none, or one that is not too long
abbrev pub is_expression_text : Option (List ℕ) → Bool
is_expression_text None = true
is_expression_text (Some text) = nat_le (length text) max_expression

abbrev pub is_trigger : Definition → Bool
is_trigger t = is_name t.name && (is_command t.command && (is_expression_text t.expression && is_file_count t.max_files_stdin))

abbrev pub definition : List ℕ → List (List ℕ) → Option (List ℕ) → Bool → Stdin → Option ℕ → Definition
definition name command expression append_files stdin most =
    record { name = name; command = command; expression = expression; append_files = append_files; stdin = stdin; max_files_stdin = most }
