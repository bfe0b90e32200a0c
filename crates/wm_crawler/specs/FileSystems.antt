-- What the files of a system that stay as they are hold below a root, and what contracts see of a tree of them.
use Rattle.std.specs.Prelude.{◌≡◌, ℕ, true, false, List, [], ◌++◌, length, Option, Some, option_map}
use Rattle.std.specs.declared.io.ErrorKind.{ErrorKind}
use Rattle.wm_names.specs.Paths.{Path}
use Rattle.wm_names.specs.Entries.{join}
use Rattle.wm_names.specs.declared.subtree.Subtree.{Subtree}
use Rattle.wm_names.specs.declared.subtree.Subtree.TheVariants.{Whole, Below}
use Rattle.wm_crawler.specs.declared.folder_tree.FolderTree.{FolderTree}
use Rattle.wm_crawler.specs.declared.stat.Stat.{Stat}
use Rattle.wm_crawler.specs.FolderNames.{folder_of, ended_names}
use Rattle.wm_crawler.specs.Stats.{is_missing_kind, meta_of_stat}
use Rattle.wm_crawler.specs.Trees.{Among, Content}

-- a read gave these bytes, and left the names that they don't hold; none are left where it gave no bytes
abbrev pub GivesNames : List ℕ → List (List ℕ) → List (List ℕ) → Type 0
GivesNames bytes old new = (old ≡ ended_names bytes ++ new) × (length bytes ≡ 0 → new ≡ [])

-- an error of this kind says that nothing is there; any other, that the system failed
abbrev pub Says : ErrorKind → Type 0 → Type 0 → Type 0
Says kind Nothing Failed = (is_missing_kind kind ≡ true → Nothing) × (is_missing_kind kind ≡ false → Failed)

-- the whole path of a place below a root; that of the root ends with a slash
abbrev pub place_path : Path → Subtree → Path
place_path root Whole = join (Below root) []
place_path root (Below path) = join (Below root) path

-- what stands below a root, by the names in each folder and what is said of each file
abbrev pub content_below : (Path → Option (List (List ℕ))) → (Path → Option Stat) → Path → Content
content_below names stats root = record {
  held = λ folder. Some (option_map folder_of (names (place_path root folder)));
  meta = λ path. Some (option_map meta_of_stat (stats (join (Below root) path)));
}

-- what is asked about one of these paths may fail
abbrev pub SomePathFails : (Path → Type 0) → List Path → Type 0
SomePathFails may_fail paths = (path : Path) × Among path paths × may_fail path

-- the files of a tree, and its root
abbrev pub tree_files : {F : Type 0} → FolderTree F → F
tree_files tree = tree.files

abbrev pub tree_root : {F : Type 0} → FolderTree F → Path
tree_root tree = tree.root
