-- The number of a watch before its record.
use Rattle.std.specs.Prelude.{ℕ, Bool, true, not, ◌&&◌, ◌||◌, ◌==◌, [], ◌∷◌, ◌++◌, length}
use Rattle.std.specs.Fmt.{decimal}
use Rattle.wm_feed.specs.Records.{Bytes}

-- the number in decimal digits, a zero byte, and the record
abbrev pub numbered : ℕ → Bytes → Bytes
numbered n told = decimal n ++ 0 ∷ told

-- no plus in front, and no zero that another digit follows
abbrev pub is_plain : Bytes → Bool
is_plain [] = true
is_plain (b ∷ digits) = not (b == 43) && (not (b == 48) || (length digits == 0))
