-- What a crawl finds, what it leaves out, and what it can't do without.
use Rattle.std.specs.Prelude.{◌≡◌, ℕ, zero, suc, ◌+◌, ◌-◌, ◌^◌, ◌⊎◌, min, Bool, true, false, ◌&&◌, cond, List, [], ◌∷◌, Option, Some, None, IsSome}
use Rattle.std.specs.List.{filter_map, sum_by}
use Rattle.wm_names.specs.Paths.{Path, components, max_rel_path}
use Rattle.wm_names.specs.declared.entry.Meta.{Meta}
use Rattle.wm_names.specs.declared.subtree.Subtree.{Subtree}
use Rattle.wm_names.specs.declared.subtree.Subtree.TheVariants.{Whole, Below}
use Rattle.wm_view.specs.Files.{Files, at}
use Rattle.wm_names.specs.Entries.{is_fit, join}
use Rattle.wm_crawler.specs.Trees.{Content, Among, SomeFails, names_held, unfit_in, is_folder}

-- the most workers of a crawl
abbrev pub max_workers : ℕ
max_workers = 16

-- ---- the top of a part

-- what stands at a path as a folder: a link is none. Nothing where it can't be told
abbrev pub as_folder : Path → Option (Option Meta) → Option (Option Subtree)
as_folder path None = None
as_folder path (Some None) = Some None
as_folder path (Some (Some meta)) = Some (cond (is_folder meta) (Some (Below path)) None)

-- the folder of a name in a folder
abbrev pub folder_below : Content → Subtree → Path → Option (Option Subtree)
folder_below c folder name = cond (is_fit folder name) (as_folder (join folder name) (c.meta (join folder name))) (Some None)

abbrev pub through_folder : Option (Option Subtree) → Option Bool → Option Bool
through_folder None rest = None
through_folder (Some None) rest = Some false
through_folder (Some (Some folder)) rest = rest

-- whether each of the names is that of a folder in the folder before it
abbrev pub leads_down : Content → Subtree → List Path → Option Bool
leads_down c folder [] = Some true
leads_down c folder (name ∷ names) = through_folder (folder_below c folder name) (leads_down c (Below (join folder name)) names)

-- Whether the part has a top: the root, or a folder to which folders alone lead from the root, and no link. Nothing where it can't be told.
abbrev pub has_top : Content → Subtree → Option Bool
has_top c Whole = Some true
has_top c (Below path) = leads_down c Whole (components path)

abbrev pub places_down : Subtree → List Path → List Subtree
places_down folder [] = []
places_down folder (name ∷ names) = Below (join folder name) ∷ places_down (Below (join folder name)) names

-- the places that lead from the root to the top, which is the last of them
abbrev pub way_to : Subtree → List Subtree
way_to Whole = []
way_to (Below path) = places_down Whole (components path)

-- ---- what stands below it

-- the folder holds the name, and the name fits
pub record HoldsName (c : Content) (folder : Subtree) (name : Path) : Type 0 where
  pub held : Among name (names_held (c.held folder))
  pub fits : is_fit folder name ≡ true

-- a folder is there
pub record IsFolder (c : Content) (path : Path) : Type 0 where
  pub meta : Meta
  pub there : c.meta path ≡ Some (Some meta)
  pub kind : is_folder meta ≡ true

-- names walked down from a folder: each is held by the folder before it, and names a folder itself, but the last, which names what has this metadata
abbrev pub IsWalk : Content → Subtree → List Path → Path → Meta → Type 0
IsWalk c folder [] path meta = ⊥
IsWalk c folder (name ∷ []) path meta = HoldsName c folder name × (path ≡ join folder name) × (c.meta path ≡ Some (Some meta))
IsWalk c folder (name ∷ next ∷ names) path meta = HoldsName c folder name × IsFolder c (join folder name) × IsWalk c (Below (join folder name)) (next ∷ names) path meta

-- the path stands below the folder and has this metadata: a walk leads to it
abbrev pub IsBelow : Content → Subtree → Path → Meta → Type 0
IsBelow c folder path meta = (names : List Path) × IsWalk c folder names path meta

-- the files are just what stands below the top, with its metadata
abbrev pub ListsBelow : Content → Subtree → Files → Type 0
ListsBelow c top files =
    ((path : Path) (meta : Meta) → at files path ≡ Some meta → IsBelow c top path meta)
    × ((path : Path) (meta : Meta) → IsBelow c top path meta → at files path ≡ Some meta)

-- the files are just what stands below the top of the part; none, if it has no top
pub record IsCrawl (c : Content) (top : Subtree) (files : Files) : Type 0 where
  pub below : has_top c top ≡ Some true → ListsBelow c top files
  pub nothing : has_top c top ≡ Some false → files ≡ []

abbrev pub is_folder_told : Option (Option Meta) → Bool
is_folder_told (Some (Some meta)) = is_folder meta
is_folder_told (Some None) = false
is_folder_told None = false

abbrev pub folder_named : Content → Subtree → Path → Option Subtree
folder_named c folder name = cond (is_fit folder name && is_folder_told (c.meta (join folder name))) (Some (Below (join folder name))) None

-- the folders that a folder holds
abbrev pub folders_in : Content → Subtree → List Subtree
folders_in c folder = filter_map (folder_named c folder) (names_held (c.held folder))

-- how many names below a folder are no paths: its own, and so many folders down those of each folder that it holds
abbrev pub unfit_below : Content → ℕ → Subtree → ℕ
unfit_below c zero folder = unfit_in folder (c.held folder)
unfit_below c (suc depth) folder = unfit_in folder (c.held folder) + sum_by (unfit_below c depth) (folders_in c folder)

-- all names below the top that are no paths, counted up to 2^64 - 1; no path has as many parts as it may have bytes
abbrev pub faults_below : Content → Subtree → ℕ
faults_below c top = min (unfit_below c max_rel_path top) (2 ^ 64 - 1)

abbrev pub is_top : Option Bool → Bool
is_top (Some b) = b
is_top None = false

-- those of a part: none, if it has no top
abbrev pub crawl_faults : Content → Subtree → ℕ
crawl_faults c top = cond (is_top (has_top c top)) (faults_below c top) 0

-- the folder is the top, or stands below it
abbrev pub IsEntered : Content → Subtree → Subtree → Type 0
IsEntered c top folder = (folder ≡ top) ⊎ ((path : Path) × (meta : Meta) × IsBelow c top path meta × (is_folder meta ≡ true) × (folder ≡ Below path))

-- each folder that the crawl enters can be read, and what stands at each of its names can be told
abbrev pub AreReadable : Content → Subtree → Type 0
AreReadable c top = (folder : Subtree) → IsEntered c top folder → IsSome (c.held folder) × ((name : Path) → HoldsName c folder name → IsSome (c.meta (join folder name)))

-- whether the part has a top can be told, and if it has one, all that the crawl enters can be read
pub record IsReadable (c : Content) (top : Subtree) : Type 0 where
  pub way : IsSome (has_top c top)
  pub below : has_top c top ≡ Some true → AreReadable c top

-- the place is the top of the part, or a path below it
abbrev pub IsIn : Subtree → Subtree → Type 0
IsIn top place = (place ≡ top) ⊎ ((rest : Path) × (place ≡ Below (join top rest)))

-- reading may fail of a place in this part
abbrev pub FailsBelow : (Subtree → Type 0) → Subtree → Type 0
FailsBelow may_fail top = (place : Subtree) × IsIn top place × may_fail place

-- reading may fail of a place in this part, or of one that leads to its top
abbrev pub FailsIn : (Subtree → Type 0) → Subtree → Type 0
FailsIn may_fail top = SomeFails may_fail (way_to top) ⊎ FailsBelow may_fail top
