-- For private clauses: what is read level by level, the names of all folders of one level, then those of the next.
use Rattle.std.specs.Prelude.{◌≡◌, ℕ, zero, suc, ◌+◌, ◌-◌, ◌^◌, min, Bool, true, ◌&&◌, List, [], ◌∷◌, ◌++◌, Option, Some, None, is_some, cond}
use Rattle.std.specs.List.{cons_option, filter_map, flat_map, list_all, sum_by}
use Rattle.wm_names.specs.Paths.{Path, same_path}
use Rattle.wm_names.specs.declared.entry.Meta.{Meta}
use Rattle.wm_names.specs.declared.subtree.Subtree.{Subtree}
use Rattle.wm_names.specs.declared.subtree.Subtree.TheVariants.{Below}
use Rattle.wm_names.specs.Entries.{is_fit, join}
use Rattle.wm_crawler.specs.Trees.{Content, Among, names_held, unfit_in, is_folder}

-- the path of a name that fits
abbrev pub path_of : Subtree → Path → Option Path
path_of folder name = cond (is_fit folder name) (Some (join folder name)) None

-- the paths of a folder's names that fit
abbrev pub paths_in : Content → Subtree → List Path
paths_in c folder = filter_map (path_of folder) (names_held (c.held folder))

abbrev pub paired : Path → Option (Option Meta) → Option (Path × Meta)
paired path (Some (Some meta)) = Some (path, meta)
paired path (Some None) = None
paired path None = None

-- each path with what stands there, where something does
abbrev pub paired_each : List Path → List (Option Meta) → List (Path × Meta)
paired_each [] metas = []
paired_each (p ∷ ps) [] = []
paired_each (p ∷ ps) (m ∷ ms) = cons_option (paired p (Some m)) (paired_each ps ms)

-- the paths at which something is, with its metadata
abbrev pub with_meta : Content → List Path → List (Path × Meta)
with_meta c paths = filter_map (λ p. paired p (c.meta p)) paths

abbrev pub folder_at : Path × Meta → Option Subtree
folder_at e = cond (is_folder e.1) (Some (Below e.0)) None

-- the folders among the entries
abbrev pub folders : List (Path × Meta) → List Subtree
folders entries = filter_map folder_at entries

-- ---- level by level

abbrev pub unfit_of : Content → List Subtree → ℕ
unfit_of c fs = sum_by (λ f. unfit_in f (c.held f)) fs

abbrev pub counted : ℕ → ℕ
counted n = min n (2 ^ 64 - 1)

abbrev pub all_held : Content → List Subtree → Bool
all_held c fs = list_all (λ f. is_some (c.held f)) fs

abbrev pub all_told : Content → List Path → Bool
all_told c paths = list_all (λ p. is_some (c.meta p)) paths

-- the paths of the level below
abbrev pub next_level : Content → List Path → List Path
next_level c paths = flat_map (paths_in c) (folders (with_meta c paths))

-- what these paths have, and what stands below them so many levels down
abbrev pub levels : Content → ℕ → List Path → List (Path × Meta)
levels c zero paths = []
levels c (suc n) paths = with_meta c paths ++ levels c n (next_level c paths)

-- how many names in the folders of so many levels are no paths
abbrev pub unfit_levels : Content → ℕ → List Path → ℕ
unfit_levels c zero paths = 0
unfit_levels c (suc n) paths = unfit_of c (folders (with_meta c paths)) + unfit_levels c n (next_level c paths)

-- so many levels can be read
abbrev pub readable_levels : Content → ℕ → List Path → Bool
readable_levels c zero paths = true
readable_levels c (suc n) paths = all_told c paths && (all_held c (folders (with_meta c paths)) && readable_levels c n (next_level c paths))

-- what reading these folders gave: the paths of what they hold, and how many names are no paths; each could be read
pub record AreRead (c : Content) (fs : List Subtree) (paths : List Path) (unfit : ℕ) : Type 0 where
  pub found : paths ≡ flat_map (paths_in c) fs
  pub left_out : unfit ≡ counted (unfit_of c fs)
  pub held : all_held c fs ≡ true

-- each path is that of a name in one of the folders
abbrev pub AllFrom : List Subtree → List Path → Type 0
AllFrom fs paths = (p : Path) → Among p paths → (f : Subtree) × Among f fs × (name : Path) × (p ≡ join f name)

-- what asking for these paths gave: what is there, with its metadata; of each it could be told
pub record AreTold (c : Content) (paths : List Path) (entries : List (Path × Meta)) : Type 0 where
  pub found : entries ≡ with_meta c paths
  pub told : all_told c paths ≡ true

-- what is there stands at one of these paths
abbrev pub AllAmong : List Path → List (Path × Meta) → Type 0
AllAmong paths entries = (e : Path × Meta) → Among e entries → Among e.0 paths

-- each path stands below the top
abbrev pub AllIn : Subtree → List Path → Type 0
AllIn top paths = (p : Path) → Among p paths → (rest : Path) × (p ≡ join top rest)

-- what reading the level with these paths gave, where so many names were left out above it: what is there, and the paths of the next level
pub record IsOneLevel (c : Content) (paths : List Path) (above : ℕ) (entries : List (Path × Meta)) (next : List Path) (unfit : ℕ) : Type 0 where
  pub found : entries ≡ with_meta c paths
  pub next_paths : next ≡ next_level c paths
  pub left_out : unfit ≡ counted (above + unfit_of c (folders (with_meta c paths)))
  pub told : all_told c paths ≡ true
  pub held : all_held c (folders (with_meta c paths)) ≡ true

-- what reading so many levels gave, where the first has these paths, and so many names were left out above it
pub record AreLevels (c : Content) (n : ℕ) (paths : List Path) (above : ℕ) (entries : List (Path × Meta)) (unfit : ℕ) : Type 0 where
  pub found : entries ≡ levels c n paths
  pub left_out : counted above ≡ above → unfit ≡ counted (above + unfit_levels c n paths)
  pub read : readable_levels c n paths ≡ true

-- ---- of what was found

-- the first of the entries at the path
abbrev pub first_at : Path → List (Path × Meta) → Option Meta
first_at path [] = None
first_at path (e ∷ es) = cond (same_path path e.0) (Some e.1) (first_at path es)

abbrev pub or_else : {A : Type 0} → Option A → Option A → Option A
or_else None other = other
or_else (Some x) other = Some x
