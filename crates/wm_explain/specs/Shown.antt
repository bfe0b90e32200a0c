-- A text from outside, as a line for people has it.
use Rattle.std.specs.Prelude.{◌∷◌, ◌++◌, ◌/◌, ◌%◌, ℕ, List, [], false, codes, flat_map, if◌then◌else◌}
use Rattle.std.specs.Fmt.{digit_glyph}
use Rattle.std.specs.Char.{encode_utf8, is_control}
use Rattle.std.specs.Str.{chars}

-- a backslash, an x, and two digits of 0 to 9 and a to f
abbrev pub escaped : ℕ → List ℕ
escaped c = codes "\\x" ++ digit_glyph false (c / 16) ∷ digit_glyph false (c % 16) ∷ []

-- control characters have the codes below 160 alone
abbrev pub shown_char : ℕ → List ℕ
shown_char c = if is_control c then escaped c else encode_utf8 c

abbrev pub shown_text : List ℕ → List ℕ
shown_text text = flat_map shown_char (chars text)
