-- What the last line of a program says that ended at its start.
use Rattle.std.specs.Prelude.{◌||◌, ◌==◌, ℕ, Bool, List, codes, length, if◌then◌else◌}
use Rattle.std.specs.List.{ends_with, starts_with}
use Rattle.wm_commands.specs.declared.starts.StartFault.{StartFault}
use Rattle.wm_commands.specs.declared.starts.StartFault.TheVariants.{NoInotifywait, DeviceFailed, ForeignState, Unexplained, Explained}

abbrev pub is_end_of : (line end : List ℕ) → Bool
is_end_of line end = ends_with (λ x y. x == y) line end

abbrev pub is_start_of : (line start : List ℕ) → Bool
is_start_of line start = starts_with (λ x y. x == y) line start

-- the line is empty, or begins with the name of a program: then it has a refusal alone
abbrev pub is_named_alone : List ℕ → Bool
is_named_alone line = (length line == 0) || (is_start_of line (codes "watchmand: ") || is_start_of line (codes "wmfeed: "))

-- by the end of the line; a line that begins with no program's name says what is wrong
abbrev pub start_fault : List ℕ → StartFault
start_fault line =
    if is_end_of line (codes "inotifywait couldn't be started") then NoInotifywait
    else if is_end_of line (codes "install inotify-tools, or put it on the PATH") then Explained
    else if is_end_of line (codes "13 DeviceFailed") then DeviceFailed
    else if is_end_of line (codes "this is no state file of watchmand") then ForeignState
    else if is_named_alone line then Unexplained else Explained
