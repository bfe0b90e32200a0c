-- The spellings of triggers, roots and states, and the limits outside which there is none.
use Rattle.std.specs.Prelude.{◌≡◌, ◌≤◌, ◌<◌, ◌==◌, ℕ, true, List, [], ◌∷◌, ◌++◌, length, map}
use Rattle.std.specs.List.{AllByRecursion, IsDistinct}
use Rattle.std.specs.Map.{keys_of}
use Rattle.std.specs.Str.{bytes_eq}
use Rattle.byteorder.specs.Endian.{big_bytes}
use Rattle.wm_disk.specs.Counters.{max_counter}
use Rattle.wm_wire.specs.Spelling.{text, truth, IsText, IsList, IsOptional, list_spelling, optional_spelling}
use Rattle.wm_registry.specs.Endings.{IsEnding, ending_spelling}
use Rattle.wm_registry.specs.Limits.{max_trigger_name, max_words, max_word, max_expression, max_triggers, max_roots}
use Rattle.wm_registry.specs.PathSpelling.{IsPath}
use Rattle.wm_registry.specs.Roots.{State}
use Rattle.wm_registry.specs.Triggers.{Definition, has_program}
use Rattle.wm_registry.specs.declared.stdin.Stdin.{Stdin}
use Rattle.wm_registry.specs.declared.stdin.Stdin.TheVariants.{DevNull, NamePerLine}
use Rattle.wm_registry.specs.declared.root.Root.{Root}
use Rattle.wm_registry.specs.Versions.{max_state_bytes}
use Rattle.wm_registry.specs.declared.version.Version.{Version}

-- ---- triggers

-- a name that is neither empty nor too long
pub record IsName (name : List ℕ) : Type 0 where
  pub is_text : IsText max_trigger_name name
  pub some : 0 < length name

-- words, not too many and none too long, the first of them not empty; an expression that is not too long; a number of files that has a place
pub record IsTrigger (v : Version) (trigger : Definition) : Type 0 where
  pub name : IsName trigger.name
  pub command : IsList max_words (IsText max_word) text trigger.command
  pub program : has_program trigger.command ≡ true
  pub expression : IsOptional (IsText max_expression) text trigger.expression
  pub ending : IsEnding v trigger.max_files_stdin

abbrev pub stdin_spelling : Stdin → List ℕ
stdin_spelling DevNull = 0 ∷ []
stdin_spelling NamePerLine = 1 ∷ []

abbrev pub trigger_spelling : Version → Definition → List ℕ
trigger_spelling v t =
    text t.name ++ (list_spelling text t.command ++ (optional_spelling text t.expression ++ (truth t.append_files ++ (stdin_spelling t.stdin ++ ending_spelling v t.max_files_stdin))))

-- ---- roots and states

abbrev pub names_of : List Definition → List (List ℕ)
names_of triggers = map (λ t. t.name) triggers

abbrev pub numbers_of : List (List ℕ × Root) → List ℕ
numbers_of roots = map (λ r. r.1.number) roots

-- a path with its root: not too many triggers, of which no two have one name
pub record IsRoot (v : Version) (root : List ℕ × Root) : Type 0 where
  pub path : IsPath root.0
  pub some : 0 < root.1.number
  pub number : root.1.number ≤ max_counter
  pub triggers : IsList max_triggers (IsTrigger v) (trigger_spelling v) root.1.triggers
  pub apart : IsDistinct bytes_eq (names_of root.1.triggers)

abbrev pub root_spelling : Version → List ℕ × Root → List ℕ
root_spelling v root = text root.0 ++ (big_bytes 8 root.1.number ++ list_spelling (trigger_spelling v) root.1.triggers)

-- by the version of its file
abbrev pub state_spelling : State → List ℕ
state_spelling s = big_bytes 8 s.incarnation ++ (big_bytes 8 s.next ++ list_spelling (root_spelling s.version) s.roots)

-- the numbers are below the next, and no two roots have one path or number.
pub record AreRoots (next : ℕ) (roots : List (List ℕ × Root)) : Type 0 where
  pub below : AllByRecursion (λ r. r.1.number < next) roots
  pub paths : IsDistinct bytes_eq (keys_of roots)
  pub numbers : IsDistinct ◌==◌ (numbers_of roots)

-- a state within the limits of its version: not too many roots, no two of one path or number, their numbers below the next
pub record IsState (s : State) : Type 0 where
  pub incarnation : s.incarnation ≤ max_counter
  pub some : 0 < s.next
  pub next : s.next ≤ max_counter
  pub roots : IsList max_roots (IsRoot s.version) (root_spelling s.version) s.roots
  pub apart : AreRoots s.next s.roots
  pub short : length (state_spelling s) ≤ max_state_bytes s.version

-- one that is kept in a file of this version
pub record IsStateIn (v : Version) (s : State) : Type 0 where
  pub version : s.version ≡ v
  pub state : IsState s
