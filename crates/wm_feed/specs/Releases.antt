-- Which syncs are released: their files are removed.
use Rattle.std.specs.Prelude.{ℕ, Bool, ◌||◌, List, [], length, nat_lt, if◌then◌else◌}
use Rattle.wm_feed.specs.Checks.{Checked, is_any_checked}
use Rattle.wm_feed.specs.Records.{Bytes}
use Rattle.wm_feed.specs.Orphans.{Unplaced}
use Rattle.wm_feed.specs.Syncs.{SyncsKept, ready_names}

-- a folder may have no watch, or something was reported by a name at which no folder is
abbrev pub is_unsure : Checked → Unplaced → Bool → Bool
is_unsure checks orphans is_moved = is_moved || (is_any_checked checks || nat_lt 0 (length orphans.names))

-- those that each watch reported behind batches that were answered, once nothing is unsure
abbrev pub released_names : List ℕ → Checked → Unplaced → Bool → SyncsKept → List Bytes
released_names watches checks orphans is_moved s = if is_unsure checks orphans is_moved then [] else ready_names watches s
