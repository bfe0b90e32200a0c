-- How the line of a refusal begins, for a server and its clients.
use Rattle.std.specs.Prelude.{ℕ, Bool, List, length, take, codes}
use Rattle.std.specs.Str.{bytes_eq}

abbrev pub refusal_start : List ℕ
refusal_start = codes "{\"error\":"

abbrev pub is_refusal_line : List ℕ → Bool
is_refusal_line line = bytes_eq (take (length refusal_start) line) refusal_start
