-- The numbers of files that the system reports to be watched by a process.
use Rattle.std.specs.Prelude.{ℕ, ◌+◌, ◌*◌, ◌-◌, ◌^◌, Bool, ◌&&◌, ◌==◌, List, [], ◌∷◌, Option, Some, None, drop, length, take, nat_le, nat_lt, codes, option_and_then, if◌then◌else◌}
use Rattle.std.specs.BTreeSet.{insert_key}
use Rattle.std.specs.Ordering.{nat_cmp}
use Rattle.std.specs.List.{fold, slice_split}
use Rattle.std.specs.Str.{bytes_eq}
use Rattle.wm_feed.specs.Records.{Bytes}
use Rattle.wm_feed.specs.Words.{begins_with}

-- ---- hexadecimal digits, of which the letters are small

abbrev pub is_byte_in : ℕ → ℕ → ℕ → Bool
is_byte_in first last b = nat_le first b && nat_le b last

abbrev pub hex_digit : ℕ → Option ℕ
hex_digit b = if is_byte_in 48 57 b then Some (b - 48) else if is_byte_in 97 102 b then Some (b - 87) else None

-- a digit behind a number, which stays below 2^64
abbrev pub with_digit : ℕ → ℕ → Option ℕ
with_digit n b = option_and_then (λ digit. if nat_lt n (2 ^ 60) then Some (n * 16 + digit) else None) (hex_digit b)

abbrev pub with_digits : ℕ → Bytes → Option ℕ
with_digits n [] = Some n
with_digits n (b ∷ digits) = option_and_then (λ m. with_digits m digits) (with_digit n b)

abbrev pub hex_number : Bytes → Option ℕ
hex_number digits = if nat_lt 0 (length digits) then with_digits 0 digits else None

-- ---- the words of a text

-- what stands behind a front
abbrev pub behind_front : Bytes → Bytes → Option Bytes
behind_front front word = if bytes_eq (take (length front) word) front then Some (drop (length front) word) else None

-- `ino:` and the number in hexadecimal digits
abbrev pub number_in : Bytes → Option ℕ
number_in word = option_and_then hex_number (behind_front (codes "ino:") word)

abbrev pub with_number : Option ℕ → List ℕ → List ℕ
with_number None numbers = numbers
with_number (Some n) numbers = insert_key nat_cmp numbers n

abbrev pub with_words : List Bytes → List ℕ → List ℕ
with_words words numbers = fold (λ all word. with_number (number_in word) all) numbers words

-- a line of a watch begins so; spaces part its words
abbrev pub with_line : Bytes → List ℕ → List ℕ
with_line line numbers =
    if begins_with (codes "inotify wd:") line
    then with_words (slice_split (λ b. b == 32) line) numbers
    else numbers

abbrev pub with_lines : List Bytes → List ℕ → List ℕ
with_lines lines numbers = fold (λ all line. with_line line all) numbers lines

-- newlines part the lines
abbrev pub with_watched : Bytes → List ℕ → List ℕ
with_watched text numbers = with_lines (slice_split (λ b. b == 10) text) numbers
