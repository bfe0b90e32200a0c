-- A negative number behind an option of `wmctl` that takes a number.
use Rattle.std.specs.Prelude.{◌==◌, ◌∷◌, ℕ, Bool, false, List, [], Option, Some, None, codes, if◌then◌else◌}
use Rattle.std.specs.Char.{is_ascii_digit}
use Rattle.std.specs.Option.{option_or}
use Rattle.std.specs.Str.{bytes_eq}

-- a hyphen (45), and then a digit
abbrev pub is_negative : List ℕ → Bool
is_negative (first ∷ second ∷ rest) = if first == 45 then is_ascii_digit second else false
is_negative word = false

abbrev pub said_of_option : List ℕ → Option (List ℕ)
said_of_option option =
    if bytes_eq option (codes "--follow") then Some (codes "error: N isn't a whole number from 0 to 4294967295\n\nFor more information, try '--help'.\n")
    else (if bytes_eq option (codes "--sync-timeout") then Some (codes "error: MS isn't a whole number from 0 to 4294967295\n\nFor more information, try '--help'.\n")
    else None)

-- what is said of an option, by the words behind it
abbrev pub said_before : List ℕ → List (List ℕ) → Option (List ℕ)
said_before option [] = None
said_before option (number ∷ rest) = if is_negative number then said_of_option option else None

-- what is said of the first such option behind which a negative number stands
abbrev pub negative_said : List (List ℕ) → Option (List ℕ)
negative_said [] = None
negative_said (option ∷ rest) = option_or (said_before option rest) (negative_said rest)
