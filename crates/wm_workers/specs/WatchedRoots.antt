-- The table of the watched roots with their numbers, in the order of watching.
use Rattle.std.specs.Prelude.{◌≡◌, ◌<◌, ◌+◌, ◌^◌, ◌-◌, ℕ, Bool, true, false, ◌==◌, ◌&&◌, nat_le, nat_lt, List, [], ◌∷◌, ◌++◌, get_or, length, take, Option, Some, None}
use Rattle.std.specs.Option.{option_map}
use Rattle.std.specs.List.{list_any}
use Rattle.std.specs.Str.{bytes_eq}
use Rattle.wm_names.specs.Paths.{Path}
use Rattle.wm_registry.specs.Limits.{max_roots}
use Rattle.wm_workers.specs.declared.roots.table.RootRow.{RootRow}

-- the roots that are watched, and the number that the next root is to have
pub record WatchedRoots (H : Type 0) : Type 0 where
  pub roots : List (RootRow H)
  pub next : ℕ

abbrev pub has_path : {H : Type 0} → Path → RootRow H → Bool
has_path path root = bytes_eq root.path path

abbrev pub has_number : {H : Type 0} → ℕ → RootRow H → Bool
has_number number root = root.number == number

abbrev pub is_absent : {H : Type 0} → Option H → Bool
is_absent None = true
is_absent (Some watched) = false

-- the row of the number, if memory ran out for its root
abbrev pub lacks_root : {H : Type 0} → ℕ → RootRow H → Bool
lacks_root number root = has_number number root && is_absent root.watched

-- each number is greater than the one before it, and the next number is above them all
abbrev pub RiseFrom : {H : Type 0} → ℕ → List (RootRow H) → ℕ → Type 0
RiseFrom low [] next = low < next
RiseFrom low (root ∷ roots) next = (low < root.number) × RiseFrom root.number roots next

-- no number comes twice, and none will
abbrev pub RootNumbersRise : {H : Type 0} → WatchedRoots H → Type 0
RootNumbersRise w = RiseFrom 0 w.roots w.next

-- a root of the number may be put: no root has had it, and fewer roots are watched than may be
abbrev pub may_put : {H : Type 0} → ℕ → WatchedRoots H → Bool
may_put number w = nat_le w.next number && (nat_lt number (2 ^ 64 - 1) && nat_lt (length w.roots) max_roots)

-- behind the others comes a root
abbrev pub with_put_root : {H : Type 0} → RootRow H → WatchedRoots H → WatchedRoots H
with_put_root root w = record { roots = w.roots ++ root ∷ []; next = root.number + 1 }

-- ---- what a server may have had

-- what a row says of its root
pub record RootName : Type 0 where
  pub path : Path
  pub number : ℕ

-- what a watched root says of itself: besides, how often the server had begun when its view was made
pub record RootId : Type 0 where
  pub path : Path
  pub number : ℕ
  pub incarnation : ℕ

abbrev pub root_name : {H : Type 0} → RootRow H → RootName
root_name root = record { path = root.path; number = root.number }

abbrev pub root_names : {H : Type 0} → List (RootRow H) → List RootName
root_names [] = []
root_names (root ∷ roots) = root_name root ∷ root_names roots

-- each number is greater than the one before it
abbrev pub NamesRise : ℕ → List RootName → Type 0
NamesRise low [] = Unit {0}
NamesRise low (name ∷ names) = (low < name.number) × NamesRise name.number names

-- in a table that a server may have had, in which no number stands twice, the root of the path has the number
abbrev pub MayHaveHad : Path → ℕ → Type 0
MayHaveHad path number = (names : List RootName) × NamesRise 0 names × (before : List RootName) × (after : List RootName) × (names ≡ before ++ record { path = path; number = number } ∷ after)

-- in such a table no root has the path
abbrev pub MayHaveLacked : Path → Type 0
MayHaveLacked path = (names : List RootName) × NamesRise 0 names × (list_any (λ name. bytes_eq name.path path) names ≡ false)

-- nor has any the number
abbrev pub MayHaveLackedNumber : ℕ → Type 0
MayHaveLackedNumber number = (names : List RootName) × NamesRise 0 names × (list_any (λ name. name.number == number) names ≡ false)

-- ---- where a root stands

-- it is the first that passes
abbrev pub IsFirst : {X : Type 0} → (X → Bool) → List X → X → Type 0
IsFirst {X} p all x = (before : List X) × (after : List X) × (all ≡ before ++ x ∷ after) × (list_any p before ≡ false) × (p x ≡ true)

-- the first that passes stands at this place
abbrev pub IsFirstPlace : {X : Type 0} → (X → Bool) → List X → ℕ → Type 0
IsFirstPlace {X} p all place = (place < length all) × (list_any p (take place all) ≡ false) × ((d : X) → p (get_or all place d) ≡ true)

-- the first that passes stands elsewhere: in place of it are these
abbrev pub ReplacesFirst : {X : Type 0} → (X → Bool) → List X → X → List X → List X → Type 0
ReplacesFirst {X} p old x others new = (before : List X) × (after : List X) × (old ≡ before ++ x ∷ after) × (list_any p before ≡ false) × (p x ≡ true) × (new ≡ before ++ (others ++ after))

-- the first root of the path has the number
abbrev pub FindsNumber : {H : Type 0} → Path → List (RootRow H) → ℕ → Type 0
FindsNumber {H} path roots number = (root : RootRow H) × IsFirst (has_path path) roots root × (root.number ≡ number)

-- the first row of the path has the root, by what its owners share
abbrev pub FindsRoot : {H V : Type 0} → (H → V) → Path → List (RootRow H) → Option H → Type 0
FindsRoot {H} value path roots watched = (root : RootRow H) × IsFirst (has_path path) roots root × (option_map value watched ≡ option_map value root.watched)
