-- The watched root of a number.
use Rattle.std.specs.Prelude.{◌≡◌, ◌⊎◌, ℕ, false, List, Some, None}
use Rattle.std.specs.List.{list_any}
use Rattle.wm_workers.specs.WatchedRoots.{IsFirst, has_number}
use Rattle.wm_workers.specs.declared.roots.table.RootRow.{RootRow}

-- the first row of the number has the root
abbrev pub IsRootOf : {H : Type 0} → ℕ → List (RootRow H) → H → Type 0
IsRootOf {H} number rows watched = (row : RootRow H) × IsFirst (has_number number) rows row × (row.watched ≡ Some watched)

-- no row has the number, or memory ran out for the root of the first that has it
abbrev pub LacksRoot : {H : Type 0} → ℕ → List (RootRow H) → Type 0
LacksRoot {H} number rows = (list_any (has_number number) rows ≡ false) ⊎ ((row : RootRow H) × IsFirst (has_number number) rows row × (row.watched ≡ None))

-- the first row of the number has a root whose owners share this
abbrev pub IsRootSharing : {H V : Type 0} → (H → V) → ℕ → List (RootRow H) → V → Type 0
IsRootSharing {H} value number rows shared = (watched : H) × IsRootOf number rows watched × (value watched ≡ shared)
