-- The line that says a part of a request.
use Rattle.std.specs.Prelude.{◌≡◌, ◌++◌, ℕ, false, List, Option, None, Some, codes, decimal, if◌then◌else◌}
use Rattle.std.specs.Str.{bytes_eq}
use Rattle.serde_json.specs.Data.{Data}
use Rattle.serde_json.specs.Written.{compact_text, has_float}
use Rattle.wm_disk.specs.declared.refusal.Refusal.{Refusal}
use Rattle.wm_explain.specs.Shown.{shown_text}
use Rattle.wm_parts.specs.RefusedParts.{PartSeen, command_seen, field_seen, form_seen, key_seen, keys_said, letter_seen, misformed_seen, pattern_seen, refusing_part, root_seen, term_seen, value_seen}
use Rattle.wm_parts.specs.RefusedValues.{value_said}

-- a name, and what is said of it
abbrev pub named_line : (name text : List ℕ) → List ℕ
named_line name text = codes "'" ++ name ++ codes "' " ++ text ++ codes "\n"

-- the text of a JSON value, and what is said of it
abbrev pub value_line : (value text : List ℕ) → List ℕ
value_line value text = value ++ codes " " ++ text ++ codes "\n"

-- how a request of the command is written
abbrev pub form_line : List ℕ → List ℕ
form_line form = codes "such a request is written " ++ form ++ codes "\n"

abbrev pub no_command : List ℕ
no_command = codes "is no command: these are version, watch, watch-del, watch-list, clock, since, query, subscribe, unsubscribe, trigger, trigger-list, trigger-del, recrawl, observe, listing and age-out"

abbrev pub no_term : List ℕ
no_term = codes "is no term of an expression: the words of terms are true, false, exists, empty, name, suffix, type, size, match, not, allof and anyof"

abbrev pub no_field : List ℕ
no_field = codes "is no field: these are name, exists, new, size, type, mtime_ms, cclock and oclock"

-- how a term that is none is written
abbrev pub misformed_said : (form : List ℕ) → List ℕ
misformed_said form = codes "is no term of an expression: such a term is written " ++ form

abbrev pub root_said : (path : List ℕ) → List ℕ
root_said path = if bytes_eq path (codes "/") then codes "can't be watched: a root is a folder below it" else codes "is no root's path: it begins with / and has no part that is empty, . or ..; realpath prints such a path"

-- of a value with a float no text is known
abbrev pub IsLineOf : PartSeen → List ℕ → Type 0
IsLineOf (command_seen name) line = line ≡ named_line (shown_text name) no_command
IsLineOf (root_seen path) line = line ≡ named_line (shown_text path) (root_said path)
IsLineOf (key_seen asking key) line = line ≡ named_line (shown_text key) (keys_said asking)
IsLineOf (value_seen key d) line = has_float d ≡ false → line ≡ value_line (shown_text (compact_text d)) (value_said key)
IsLineOf (term_seen d) line = has_float d ≡ false → line ≡ value_line (shown_text (compact_text d)) no_term
IsLineOf (misformed_seen d form) line = has_float d ≡ false → line ≡ value_line (shown_text (compact_text d)) (misformed_said form)
IsLineOf (pattern_seen text) line = line ≡ named_line (shown_text text) (codes "is no pattern of match: this has at most 1,024 bytes, and neither [ nor \\; * fits any bytes of a name, ? one byte, and ** any folders")
IsLineOf (letter_seen text) line = line ≡ named_line (shown_text text) (codes "is no type of a file: these are f (a file), d (a folder), l (a link) and o (all else)")
IsLineOf (field_seen d) line = has_float d ≡ false → line ≡ value_line (shown_text (compact_text d)) no_field
IsLineOf (form_seen form) line = line ≡ form_line form

abbrev pub SaysOf : Option PartSeen → Option (List ℕ) → Type 0
SaysOf None said = said ≡ None
SaysOf (Some part) None = ⊥
SaysOf (Some part) (Some line) = IsLineOf part line

-- the column is where the reader of JSON stopped
abbrev pub no_json : ℕ → List ℕ
no_json column = codes "the request is no JSON text, as '[\"watch-list\"]' is in a shell: look at column " ++ decimal column ++ codes "\n"

-- it is said to be no JSON text, with some column
abbrev pub SaysNoJson : Option (List ℕ) → Type 0
SaysNoJson None = ⊥
SaysNoJson (Some line) = (column : ℕ) × (line ≡ no_json column)

-- the part for which a request is refused is said, if it has one, or that it is no JSON text
abbrev pub SaysPart : Option Refusal → Option Data → Option (List ℕ) → Type 0
SaysPart None value said = said ≡ None
SaysPart (Some e) None said = SaysNoJson said
SaysPart (Some e) (Some d) said = SaysOf (refusing_part e d) said
