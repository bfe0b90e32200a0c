-- What a few records ask for together.
use Rattle.std.specs.Prelude.{ℕ, Bool, true, not, ◌&&◌, ◌==◌, List, [], ◌∷◌, ◌++◌, false, length, nat_lt, if◌then◌else◌}
use Rattle.std.specs.BTreeSet.{insert_key}
use Rattle.wm_names.specs.Paths.{Path, is_rel_path, path_cmp}
use Rattle.wm_feed.specs.Records.{Happened, RecordTells, content_changed, file_changed, nothing, entry, folder_alone, doubt}

-- the most paths, and the most folders
abbrev pub max_paths : ℕ
max_paths = 65536

-- paths to look at and folders to crawl, each in the order of the paths, and whether the whole root is to be crawled
pub record Gathered : Type 0 where
  pub paths : List Path
  pub folders : List Path
  pub is_whole : Bool

abbrev pub nothing_asked : Gathered
nothing_asked = record { paths = []; folders = []; is_whole = false }

abbrev pub asks_nothing : Gathered → Bool
asks_nothing a = (length a.paths == 0) && ((length a.folders == 0) && not a.is_whole)

abbrev pub with_whole : Gathered → Gathered
with_whole a = record { paths = a.paths; folders = a.folders; is_whole = true }

abbrev pub with_asked_path : Path → Gathered → Gathered
with_asked_path p a =
    if nat_lt (length a.paths) max_paths
    then record { paths = insert_key path_cmp a.paths p; folders = a.folders; is_whole = a.is_whole }
    else with_whole a

abbrev pub with_folder : Path → Gathered → Gathered
with_folder p a =
    if nat_lt (length a.folders) max_paths
    then record { paths = a.paths; folders = insert_key path_cmp a.folders p; is_whole = a.is_whole }
    else with_whole a

-- a text that is no path, being too long or empty, is in no view
abbrev pub with_text : Path → Gathered → Gathered
with_text text a = if is_rel_path text then with_asked_path text a else a

abbrev pub with_folder_text : Path → Gathered → Gathered
with_folder_text text a = if is_rel_path text then with_folder text a else a

-- the path of a name in a folder, which is the root where it is empty
abbrev pub entry_path : Path → Path → Path
entry_path [] name = name
entry_path (b ∷ folder) name = (b ∷ folder) ++ 47 ∷ name

abbrev pub with_content : Happened → Path → Gathered → Gathered
with_content content_changed path a = a
with_content file_changed path a = a
with_content _ path a = with_folder_text path a

-- whether the folder of an entry changed too: not if the content of a file did alone
abbrev pub changes_holder : Happened → Bool
changes_holder content_changed = false
changes_holder _ = true

abbrev pub with_holder : Happened → Path → Gathered → Gathered
with_holder change folder a = if changes_holder change then with_text folder a else a

-- an entry asks for itself and its folder, and to be crawled where it is a folder; a doubt asks for the whole root
abbrev pub gathered_by : RecordTells → Gathered → Gathered
gathered_by nothing a = a
gathered_by (entry folder name change) a = with_content change (entry_path folder name) (with_text (entry_path folder name) (with_holder change folder a))
gathered_by (folder_alone folder) a = with_text folder a
gathered_by doubt a = with_whole a
