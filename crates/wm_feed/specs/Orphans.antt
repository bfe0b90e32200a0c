-- Names at which no folder is, and what explains them.
use Rattle.std.specs.Prelude.{Bool, not, ◌&&◌, ◌||◌, List, [], length, nat_lt, if◌then◌else◌}
use Rattle.std.specs.BTreeSet.{insert_key}
use Rattle.std.specs.List.{filter}
use Rattle.wm_names.specs.Paths.{Path, path_cmp}
use Rattle.wm_feed.specs.Laws.{is_asked_path}
use Rattle.wm_feed.specs.Steps.{is_below_any}

-- the names, and the folders that something happened to since the first of them
pub record Unplaced : Type 0 where
  pub names : List Path
  pub ended : List Path

abbrev pub no_orphans : Unplaced
no_orphans = record { names = []; ended = [] }

-- of both 65,536 are kept
abbrev pub with_name : Path → Unplaced → Unplaced
with_name p s = if nat_lt (length s.names) 65536 then record { names = insert_key path_cmp s.names p; ended = s.ended } else s

abbrev pub with_end : Path → Unplaced → Unplaced
with_end p s =
    if nat_lt 0 (length s.names) && nat_lt (length s.ended) 65536
    then record { names = s.names; ended = insert_key path_cmp s.ended p }
    else s

-- something happened to the folder, or to one that it stands in
abbrev pub is_explained : Path → List Path → Bool
is_explained p ended = is_asked_path p ended || is_below_any p ended

abbrev pub unexplained : Unplaced → List Path
unexplained s = filter (λ p. not (is_explained p s.ended)) s.names
