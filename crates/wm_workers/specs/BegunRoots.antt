-- How the roots of a registry begin in the table of the watched roots.
use Rattle.std.specs.Prelude.{◌≡◌, ℕ, max, List, [], ◌∷◌, Some}
use Rattle.std.specs.Option.{option_map}
use Rattle.wm_names.specs.Paths.{Path}
use Rattle.wm_registry.specs.declared.command.Command.{Command}
use Rattle.wm_registry.specs.declared.command.Command.TheVariants.{Watch}
use Rattle.wm_registry.specs.declared.root.Root.{Root}
use Rattle.wm_root.specs.declared.watched_root.WatchedRoot.{WatchedRoot}
use Rattle.wm_workers.specs.FollowedRoots.{PutsRoot}
use Rattle.wm_workers.specs.UnstartedWorkers.{WorkerList}
use Rattle.wm_workers.specs.WatchedRoots.{RootId, WatchedRoots, root_name}
use Rattle.wm_workers.specs.declared.roots.table.RootRow.{RootRow}

module _ {H : Type 0} where
  -- The rows are put, one after the other
  abbrev pub PutsAll : List (RootRow H) → WatchedRoots H → WorkerList → WatchedRoots H → WorkerList → Type 0
  PutsAll [] old u new u' = (new ≡ old) × (u' ≡ u)
  PutsAll (row ∷ all) old u new u' = (mid : WatchedRoots H) × (v : WorkerList) × PutsRoot row old u mid v × PutsAll all mid v new u'

  -- and the next root is to have at least this number.
  abbrev pub BeginsTable : List (RootRow H) → ℕ → WatchedRoots H → WorkerList → WatchedRoots H → WorkerList → Type 0
  BeginsTable all next old u new u' = (mid : WatchedRoots H) × PutsAll all old u mid u' × (new ≡ record mid { next = max mid.next next })

-- a root's path and number, and the incarnation of its share
abbrev pub root_id : {J K : Type 0} → WatchedRoot J K → RootId
root_id root = record { path = root.path; number = root.number; incarnation = root.share.incarnation }

-- `id` is what a watched root says of itself
module _ {H : Type 0} (id : H → RootId) where
  -- The row has the path and the number of the registry's root, and so has its own, which is of the incarnation.
  abbrev pub IsRootBegun : (incarnation : ℕ) → Path × Root → RootRow H → Type 0
  IsRootBegun incarnation entry row =
      (root_name row ≡ record { path = entry.0; number = entry.1.number })
      × (option_map id row.watched ≡ Some (record { path = entry.0; number = entry.1.number; incarnation = incarnation }))

  abbrev pub AreRootsBegun : (incarnation : ℕ) → List (Path × Root) → List (RootRow H) → Type 0
  AreRootsBegun incarnation [] [] = Unit {0}
  AreRootsBegun incarnation [] (row ∷ rows) = ⊥
  AreRootsBegun incarnation (entry ∷ entries) [] = ⊥
  AreRootsBegun incarnation (entry ∷ entries) (row ∷ rows) = IsRootBegun incarnation entry row × AreRootsBegun incarnation entries rows

  -- a root of the incarnation was made for a command that adds one, by its path and the number that it has
  abbrev pub IsMadeFor : (incarnation : ℕ) → Command → ℕ × H → Type 0
  IsMadeFor incarnation (Watch path) made = id made.1 ≡ record { path = path; number = made.0; incarnation = incarnation }
  IsMadeFor incarnation _ made = ⊥
