-- What inotifywait says beside its records, cut into lines.
use Rattle.std.specs.Prelude.{ℕ, Bool, true, false, not, ◌&&◌, ◌==◌, List, [], ◌∷◌, ◌++◌, ◌-◌, length, take, drop, nat_lt, codes, if◌then◌else◌}
use Rattle.std.specs.List.{fold}
use Rattle.std.specs.Str.{bytes_eq, is_utf8}
use Rattle.wm_feed.specs.Records.{Bytes}

-- the line that isn't ended yet, the lines that weren't taken, and whether each folder is watched
pub record Said : Type 0 where
  pub line : Bytes
  pub lines : List Bytes
  pub is_established : Bool

abbrev pub nothing_said : Said
nothing_said = record { line = []; lines = []; is_established = false }

abbrev pub begins_with : Bytes → Bytes → Bool
begins_with front line = bytes_eq front (take (length front) line)

abbrev pub ends_with : Bytes → Bytes → Bool
ends_with back line = bytes_eq back (drop (length line - length back) line)

-- no greeting
abbrev pub is_complaint : Bytes → Bool
is_complaint line = not (length line == 0) && not (begins_with (codes "Setting up watches.") line)

-- not that a folder was gone before it could be watched, or a file in it
abbrev pub is_for_user : Bytes → Bool
is_for_user line = not (ends_with (codes "No such file or directory") line)

-- the end of a line
abbrev pub ended : Said → Said
ended s =
    if bytes_eq s.line (codes "Watches established.")
    then record { line = []; lines = s.lines; is_established = true }
    else record { line = []; lines = (if is_complaint s.line then s.lines ++ s.line ∷ [] else s.lines); is_established = s.is_established }

-- a byte more, of which 4,096 are kept for a line; a newline (10) ends it
abbrev pub with_byte : Said → ℕ → Said
with_byte s b =
    if b == 10
    then ended s
    else if nat_lt (length s.line) 4096
    then record { line = s.line ++ b ∷ []; lines = s.lines; is_established = s.is_established }
    else s

abbrev pub with_bytes : Bytes → Said → Said
with_bytes bytes s = fold with_byte s bytes

-- a line that is no text is told as such
abbrev pub line_as_text : Bytes → Bytes
line_as_text line = if is_utf8 line then line else codes "(a line that is no text)"
