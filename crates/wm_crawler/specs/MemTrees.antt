-- What a tree in memory holds.
use Rattle.std.specs.Prelude.{◌≡◌, ◌⊎◌, Bool, true, false, List, [], ◌∷◌, Option, Some, None, cond}
use Rattle.wm_names.specs.Paths.{Path, same_path}
use Rattle.wm_names.specs.declared.entry.Meta.{Meta}
use Rattle.wm_names.specs.declared.subtree.Subtree.{Subtree}
use Rattle.wm_names.specs.declared.subtree.Subtree.TheVariants.{Whole, Below}
use Rattle.wm_crawler.specs.Trees.{Content, Held}

-- its folders, each with what it holds, or that it can't be read; and what stands at paths, or that it can't be told
pub record MemTreeValue : Type 0 where
  pub folders : List (Subtree × Option Held)
  pub files : List (Path × Option Meta)

abbrev pub same_place : Subtree → Subtree → Bool
same_place Whole Whole = true
same_place (Below p) (Below q) = same_path p q
same_place Whole (Below q) = false
same_place (Below p) Whole = false

-- what is there: that it can't be read, or that it can
abbrev pub told_of : {A : Type 0} → Option A → Option (Option A)
told_of None = None
told_of (Some x) = Some (Some x)

-- of several at one place the first counts
abbrev pub folder_told : Subtree → List (Subtree × Option Held) → Option (Option Held)
folder_told place [] = Some None
folder_told place (e ∷ es) = cond (same_place place e.0) (told_of e.1) (folder_told place es)

abbrev pub file_told : Path → List (Path × Option Meta) → Option (Option Meta)
file_told path [] = Some None
file_told path (e ∷ es) = cond (same_path path e.0) (told_of e.1) (file_told path es)

abbrev pub content_of : MemTreeValue → Content
content_of tree = record { held = λ f. folder_told f tree.folders; meta = λ p. file_told p tree.files }

-- the place is a folder that can't be read, or a path of which nothing can be told
abbrev pub MayNotTell : MemTreeValue → Subtree → Type 0
MayNotTell tree place = (folder_told place tree.folders ≡ None) ⊎ ((path : Path) × (place ≡ Below path) × (file_told path tree.files ≡ None))
