-- The names of cursors.
use Rattle.std.specs.Prelude.{ℕ, List, Bool, ◌&&◌, length, nat_lt, nat_le}

-- the most bytes of a cursor's name
abbrev pub max_cursor_name : ℕ
max_cursor_name = 64

-- neither empty nor too long
abbrev pub is_cursor_name : List ℕ → Bool
is_cursor_name name = nat_lt 0 (length name) && nat_le (length name) max_cursor_name
