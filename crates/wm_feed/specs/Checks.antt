-- Which folders are to be checked for a watch.
use Rattle.std.specs.Prelude.{Bool, true, false, ◌||◌, List, [], length, nat_lt, if◌then◌else◌}
use Rattle.std.specs.List.{list_any}
use Rattle.std.specs.BTreeSet.{insert_key}
use Rattle.wm_names.specs.Paths.{Path, is_rel_path, path_cmp, same_path}
use Rattle.wm_feed.specs.Records.{RecordTells, entry, made, removed, left, came}
use Rattle.wm_feed.specs.Batches.{entry_path}

-- all folders, or each of these and those below it, but for those that were told to be made
pub record Checked : Type 0 where
  pub is_all : Bool
  pub parts : List Path
  pub made : List Path

abbrev pub nothing_checked : Checked
nothing_checked = record { is_all = false; parts = []; made = [] }

abbrev pub all_checked : Checked → Checked
all_checked c = record { is_all = true; parts = c.parts; made = c.made }

-- a part more, or all where there are too many
abbrev pub with_part : Path → Checked → Checked
with_part p c =
    if nat_lt (length c.parts) 4096
    then record { is_all = c.is_all; parts = insert_key path_cmp c.parts p; made = c.made }
    else all_checked c

-- a folder that was made, where there is room: one that isn't among them is checked
abbrev pub with_made : Path → Checked → Checked
with_made p c =
    if nat_lt (length c.made) 65536
    then record { is_all = c.is_all; parts = c.parts; made = insert_key path_cmp c.made p }
    else c

-- a folder that was removed may be made anew, and those below it too, without being told: what was made is no longer known by its name
abbrev pub none_made : Checked → Checked
none_made c = record { is_all = c.is_all; parts = c.parts; made = [] }

-- what a folder that was made is to the checks: where its place is certain it is watched
abbrev pub with_new : Bool → Path → Checked → Checked
with_new is_certain p c = if is_rel_path p then with_part p (if is_certain then with_made p c else c) else c

-- what a folder that moved is: what was made below it is no longer known by its name
abbrev pub with_moved : Path → Checked → Checked
with_moved p c = if is_rel_path p then with_part p (none_made c) else none_made c

abbrev pub checked_by : Bool → RecordTells → Checked → Checked
checked_by is_certain (entry folder name made) c = with_new is_certain (entry_path folder name) c
checked_by is_certain (entry folder name removed) c = none_made c
checked_by is_certain (entry folder name (left _)) c = with_moved (entry_path folder name) c
checked_by is_certain (entry folder name (came _)) c = with_moved (entry_path folder name) c
checked_by _ _ c = c

-- whether a folder is among those that were made
abbrev pub was_made : Path → List Path → Bool
was_made p paths = list_any (λ q. same_path p q) paths

-- whether any folder is to be checked
abbrev pub is_any_checked : Checked → Bool
is_any_checked c = c.is_all || nat_lt 0 (length c.parts)
