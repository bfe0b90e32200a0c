-- The lines that ask a server for files, as JSON.
use Rattle.std.specs.Prelude.{◌++◌, ◌∷◌, ◌||◌, ◌==◌, ℕ, Bool, not, List, [], Option, None, Some, codes, map, if◌then◌else◌}
use Rattle.std.specs.List.{list_any}
use Rattle.serde_json.specs.Data.{Data, Members, array, object, member, no_members, string}
use Rattle.serde_json.specs.View.{items_of}
use Rattle.wm_names.specs.Paths.{Path}
use Rattle.wm_commands.specs.Folders.{path_behind, path_in}

-- ---- expressions

abbrev pub has_byte : ℕ → List ℕ → Bool
has_byte byte text = list_any (λ b. b == byte) text

-- a folder whose path can stand in a pattern: it has none of * ? [ \
abbrev pub fits_in_pattern : Path → Bool
fits_in_pattern folder = not (has_byte 42 folder || (has_byte 63 folder || (has_byte 91 folder || has_byte 92 folder)))

abbrev pub has_slash : List ℕ → Bool
has_slash pattern = has_byte 47 pattern

abbrev pub list_data : List Data → Data
list_data values = array (items_of values)

-- `["match",PATTERN,"wholename"]`: the whole path below the root fits
abbrev pub whole_match : List ℕ → Data
whole_match pattern = list_data (string (codes "match") ∷ string pattern ∷ string (codes "wholename") ∷ [])

-- `["match",PATTERN]`: the last component fits
abbrev pub base_match : List ℕ → Data
base_match pattern = list_data (string (codes "match") ∷ string pattern ∷ [])

-- a pattern with a slash is one of paths below the folder
abbrev pub pattern_from : Option Path → List ℕ → List ℕ
pattern_from None pattern = pattern
pattern_from (Some below) pattern = path_in below pattern

abbrev pub pattern_data : Option Path → List ℕ → Data
pattern_data below pattern = if has_slash pattern then whole_match (pattern_from below pattern) else base_match pattern

-- what stands in the folder, if its path can stand in a pattern; else all of the root is asked for
abbrev pub scope_data : Option Path → List Data
scope_data None = []
scope_data (Some below) = if fits_in_pattern below then whole_match (path_in below (codes "**")) ∷ [] else []

-- one of the patterns fits; without a pattern everything does
abbrev pub patterns_data : Option Path → List (List ℕ) → List Data
patterns_data below [] = []
patterns_data below (pattern ∷ patterns) = list_data (string (codes "anyof") ∷ map (pattern_data below) (pattern ∷ patterns)) ∷ []

abbrev pub own_data : Option Data → List Data
own_data None = []
own_data (Some expression) = expression ∷ []

-- what stands in the folder, fits one of the patterns, and fits the user's own expression
abbrev pub expression_data : Option Path → List (List ℕ) → Option Data → Data
expression_data below patterns own = list_data (string (codes "allof") ∷ (scope_data below ++ patterns_data below patterns ++ own_data own))

-- ---- questions

-- the names alone, or what a query tells of itself
abbrev pub fields_data : Bool → Data
fields_data is_json = if is_json
    then list_data (string (codes "name") ∷ string (codes "exists") ∷ string (codes "new") ∷ string (codes "size") ∷ [])
    else list_data (string (codes "name") ∷ [])

abbrev pub since_members : Option (List ℕ) → Members
since_members None = no_members
since_members (Some clock) = member (codes "since") (string clock) no_members

-- the keys are in the order of their bytes
abbrev pub query_object : Option (List ℕ) → (fields expression : Data) → Data
query_object since fields expression = object (member (codes "expression") expression (member (codes "fields") fields (since_members since)))

-- `["query",ROOT,OBJECT]`
abbrev pub query_data : Path → Data → Data
query_data root members = list_data (string (codes "query") ∷ string root ∷ members ∷ [])

-- `["subscribe",ROOT,"wm",OBJECT]`
abbrev pub subscribe_data : Path → Data → Data
subscribe_data root members = list_data (string (codes "subscribe") ∷ string root ∷ string (codes "wm") ∷ members ∷ [])

-- `["watch",ROOT]`, and others of a root alone
abbrev pub root_data : (command root : List ℕ) → Data
root_data command root = list_data (string command ∷ string root ∷ [])

-- `@NAME` is the cursor of this name, and any other word is a clock
abbrev pub cursor_or : List ℕ → Option (List ℕ) → List ℕ
cursor_or word None = word
cursor_or word (Some name) = codes "n:" ++ name

abbrev pub since_said : List ℕ → List ℕ
since_said word = cursor_or word (path_behind (codes "@") word)
