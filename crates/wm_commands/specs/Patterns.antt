-- Patterns that don't mean what a person may think: braces stand for themselves, and a bracket or a backslash is refused.
use Rattle.std.specs.Prelude.{◌≡◌, ◌++◌, ◌∷◌, ◌&&◌, ◌||◌, ◌==◌, ℕ, Bool, true, false, not, List, Option, None, Some, if◌then◌else◌}
use Rattle.std.specs.List.{after_first, before_first}
use Rattle.wm_commands.specs.Questions.{has_byte}
use Rattle.wm_commands.specs.declared.patterns.PatternFault.{PatternFault}
use Rattle.wm_commands.specs.declared.patterns.PatternFault.TheVariants.{Bracket, Backslash}

-- a brace that opens, a comma, and a brace that closes
abbrev pub has_braces : List ℕ → Bool
has_braces pattern = has_byte 123 pattern && (has_byte 44 pattern && has_byte 125 pattern)

abbrev pub has_any_brace : List ℕ → Bool
has_any_brace text = has_byte 123 text || has_byte 125 text

-- round and between two braces: the list has a comma, and no brace is left
abbrev pub is_list_in : (front list back : List ℕ) → Bool
is_list_in front list back = has_byte 44 list && not (has_any_brace front || (has_any_brace list || has_any_brace back))

-- the pattern is these three parts with a brace that opens and one that closes between them
abbrev pub IsBraced : List ℕ → (front list back : List ℕ) → Type 0
IsBraced pattern front list back = (pattern ≡ front ++ 123 ∷ (list ++ 125 ∷ back)) × (is_list_in front list back ≡ true)

abbrev pub opens : ℕ → Bool
opens b = b == 123

abbrev pub closes : ℕ → Bool
closes b = b == 125

-- by the first brace that opens and the first one behind it that closes
abbrev pub has_list_behind : (front rest : List ℕ) → Bool
has_list_behind front rest = has_byte 125 rest && is_list_in front (before_first closes rest) (after_first closes rest)

abbrev pub has_one_list : List ℕ → Bool
has_one_list pattern = has_byte 123 pattern && has_list_behind (before_first opens pattern) (after_first opens pattern)

-- why the server refuses a pattern
abbrev pub pattern_fault : List ℕ → Option PatternFault
pattern_fault pattern = if has_byte 91 pattern then Some Bracket else if has_byte 92 pattern then Some Backslash else None
