-- Which watched root holds a folder, and by which name a file of the root is reported from that folder.
use Rattle.std.specs.Prelude.{◌≡◌, ◌⊎◌, ◌≤◌, ◌∷◌, ◌++◌, ◌&&◌, ◌==◌, ℕ, Bool, true, false, List, [], Option, None, Some, All, Contains, length, nat_le, take, drop, if◌then◌else◌}
use Rattle.std.specs.List.{list_all}
use Rattle.std.specs.Str.{bytes_eq}
use Rattle.wm_names.specs.Paths.{Path}

-- the path of a name in a folder
abbrev pub path_in : Path → Path → Path
path_in folder name = folder ++ 47 ∷ name

-- nothing, or a slash: so a component ends here
abbrev pub ends_component : List ℕ → Bool
ends_component [] = true
ends_component (b ∷ rest) = b == 47

-- the root is the folder, or a folder above it: its path is the first components of the folder's
abbrev pub holds_folder : Path → Path → Bool
holds_folder root dir = bytes_eq (take (length root) dir) root && ends_component (drop (length root) dir)

-- For private clauses: the better of two roots for a folder. It is the best so far, unless the other holds the folder and is longer.
abbrev pub longer_root : Option Path → Path → Option Path
longer_root None root = Some root
longer_root (Some best) root = if nat_le (length root) (length best) then Some best else Some root

abbrev pub better_root : Path → Option Path → Path → Option Path
better_root dir best root = if holds_folder root dir then longer_root best root else best

-- the longest of some roots that hold a folder; or none of them holds it
abbrev pub IsHolderOf : List Path → Path → Option Path → Type 0
IsHolderOf roots dir None = All (λ root. holds_folder root dir ≡ false) roots
IsHolderOf roots dir (Some holder) = Contains roots holder × (holds_folder holder dir ≡ true)
    × All (λ root. holds_folder root dir ≡ true → length root ≤ length holder) roots

-- the path is the root's, perhaps with slashes behind it
abbrev pub names_root : (root path : Path) → Bool
names_root root path = bytes_eq (take (length root) path) root && list_all (λ b. b == 47) (drop (length root) path)

-- A listed path names its own root, also if it is a symlink; any other path names the folder to which it leads.
abbrev pub IsNamedRoot : List Path → (path folder : Path) → Path → Type 0
IsNamedRoot roots path folder root = (Contains roots root × (names_root root path ≡ true))
    ⊎ (All (λ one. names_root one path ≡ false) roots × (root ≡ folder))

-- The name of a path in a folder; none if the path isn't in the folder.
abbrev pub IsNameIn : (folder path : Path) → Option Path → Type 0
IsNameIn folder path None = (name : Path) → path_in folder name ≡ path → ⊥
IsNameIn folder path (Some name) = path_in folder name ≡ path

-- what follows a start of a path
abbrev pub path_behind : List ℕ → Path → Option Path
path_behind start path = if bytes_eq (take (length start) path) start then Some (drop (length start) path) else None

-- that name, computed
abbrev pub name_in : (folder path : Path) → Option Path
name_in folder path = path_behind (path_in folder []) path

-- the name by which a file of a root is reported from a folder: both say one path
abbrev pub reported_name : (root dir name : Path) → Option Path
reported_name root dir name = name_in dir (path_in root name)
