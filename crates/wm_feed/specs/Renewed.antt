-- The paths at which an event showed nothing new.
use Rattle.std.specs.Prelude.{Bool, false, not, ◌&&◌, List, Option, Some, None}
use Rattle.std.specs.List.{filter}
use Rattle.wm_names.specs.Entries.{same_kind}
use Rattle.wm_names.specs.Paths.{Path}
use Rattle.wm_names.specs.declared.entry.Kind.TheVariants.{Folder}
use Rattle.wm_names.specs.declared.entry.Meta.{Meta}
use Rattle.wm_feed.specs.Laws.{is_asked_path}

-- something is there, and it is no folder
abbrev pub is_file_there : Option Meta → Bool
is_file_there None = false
is_file_there (Some m) = not (same_kind m.kind Folder)

abbrev pub is_unshown : List Path → Path × Option Meta → Bool
is_unshown changed pair = is_file_there pair.1 && not (is_asked_path pair.0 changed)

abbrev pub unshown : List (Path × Option Meta) → List Path → List (Path × Option Meta)
unshown pairs changed = filter (λ pair. is_unshown changed pair) pairs
