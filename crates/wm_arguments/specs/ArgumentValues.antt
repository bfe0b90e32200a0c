-- What the words mean that clap finds for an argument. A word is a text, as the list of its bytes.
use Rattle.std.specs.Prelude.{◌≡◌, ◌<◌, ◌^◌, ℕ, Bool, false, Option, Some, None, codes, option_map}
use Rattle.std.specs.Option.{MatchOption}
use Rattle.std.specs.Borrow.{Bor}
use Rattle.std.specs.Str.{bytes_eq}
use Rattle.std.specs.Str.Parse.{IsNumeral, digits_value, without_leading_plus}
use Rattle.clap.specs.Words.{Text}

-- the text of a word that may be there
abbrev pub text_of : Option (Bor Text) → Option Text
text_of = option_map (λ word. word.now)

-- a flag is set if clap finds the text "true" for it
abbrev pub is_flag_set : Option Text → Bool
is_flag_set None = false
is_flag_set (Some text) = bytes_eq text (codes "true")

-- the text is this number: decimal digits, with a plus before them or none, below 2^32
abbrev pub IsNumber : Text → ℕ → Type 0
IsNumber text n = IsNumeral 10 (without_leading_plus text) × (n < 2 ^ 32) × (n ≡ digits_value 10 (without_leading_plus text))

-- the number that a word tells; the default if it isn't there
abbrev pub TellsNumber : ℕ → Option Text → ℕ → Type 0
TellsNumber default None n = n ≡ default
TellsNumber default (Some text) n = IsNumber text n

-- the number of which this holds; `None` if it holds of none
abbrev pub IsNumberRead : (ℕ → Type 0) → Option ℕ → Type 0
IsNumberRead P found = MatchOption found ((n : ℕ) → P n → ⊥) P
