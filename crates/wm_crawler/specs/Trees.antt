-- What a tree of files holds that stays as it is.
use Rattle.std.specs.Prelude.{◌≡◌, ◌⊎◌, ℕ, ◌+◌, Bool, not, List, [], ◌∷◌, map, Option, Some, None}
use Rattle.std.specs.List.{count_by}
use Rattle.wm_names.specs.Paths.{Path}
use Rattle.wm_names.specs.Entries.{is_fit, same_kind}
use Rattle.wm_names.specs.declared.entry.Kind.TheVariants.{Folder}
use Rattle.wm_names.specs.declared.entry.Meta.{Meta}
use Rattle.wm_names.specs.declared.subtree.Subtree.{Subtree}

-- what a folder holds: the names that are text, and how many names are not
pub record Held : Type 0 where
  pub names : List Path
  pub others : ℕ

-- what reading the root or a folder in it gives: nothing where it can't be read, `Some None` where no folder is there;
-- and what asking for a path's metadata gives: nothing where it can't be told, `Some None` where nothing is there
pub record Content : Type 0 where
  pub held : Subtree → Option (Option Held)
  pub meta : Path → Option (Option Meta)

-- the names of a folder, and how many more it has
abbrev pub names_held : Option (Option Held) → List Path
names_held (Some (Some held)) = held.names
names_held (Some None) = []
names_held None = []

abbrev pub others_held : Option (Option Held) → ℕ
others_held (Some (Some held)) = held.others
others_held (Some None) = 0
others_held None = 0

-- how many names of a folder are no paths: those that aren't text, and those that don't fit
abbrev pub unfit_in : Subtree → Option (Option Held) → ℕ
unfit_in folder held = others_held held + count_by (λ name. not (is_fit folder name)) (names_held held)

abbrev pub is_folder : Meta → Bool
is_folder meta = same_kind meta.kind Folder

-- x is an element
abbrev pub Among : {A : Type 0} → A → List A → Type 0
Among x [] = ⊥
Among x (y ∷ ys) = (x ≡ y) ⊎ Among x ys

-- of one of these places reading may fail
abbrev pub SomeFails : (Subtree → Type 0) → List Subtree → Type 0
SomeFails may_fail places = (place : Subtree) × Among place places × may_fail place

-- what asking for these paths gave, one after another; of each it could be told
abbrev pub AreMetas : Content → List Path → List (Option Meta) → Type 0
AreMetas c paths metas = map Some metas ≡ map c.meta paths

-- the content of a tree of which nothing is promised
abbrev pub nothing_known : Content
nothing_known = record { held = λ _. None; meta = λ _. None }
