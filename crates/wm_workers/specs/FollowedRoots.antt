-- How the table of the watched roots follows the accepted commands.
use Rattle.std.specs.Prelude.{◌≡◌, ◌⊎◌, ◌==◌, ℕ, Bool, true, false, List, [], ◌∷◌, Option, None, Some, MatchBool, MatchOption, find, if◌then◌else◌}
use Rattle.std.specs.List.{list_any}
use Rattle.wm_names.specs.Paths.{Path}
use Rattle.wm_registry.specs.Registry.{after_command, changes}
use Rattle.wm_registry.specs.Roots.{State}
use Rattle.wm_registry.specs.declared.command.Command.{Command}
use Rattle.wm_registry.specs.declared.command.Command.TheVariants.{Begin, Watch, WatchDel, Trigger, TriggerDel}
use Rattle.wm_registry.specs.declared.root.Root.{Root}
use Rattle.wm_workers.specs.UnstartedWorkers.{WorkerList, with_workers}
use Rattle.wm_workers.specs.WatchedRoots.{ReplacesFirst, RootName, WatchedRoots, has_path, lacks_root, may_put, root_names, with_put_root}
use Rattle.wm_workers.specs.declared.roots.followed.Followed.{Followed}
use Rattle.wm_workers.specs.declared.roots.followed.Followed.TheVariants.{Nothing, Ended, Defined, Deleted}
use Rattle.wm_workers.specs.declared.roots.table.RootRow.{RootRow}

-- ---- the roots by path and number

-- the roots by path and number, in the order of watching, and the number that the next root is to have
pub record NumberedRoots : Type 0 where
  pub roots : List RootName
  pub next : ℕ

-- those of a table
abbrev pub numbered_roots : {H : Type 0} → WatchedRoots H → NumberedRoots
numbered_roots w = record { roots = root_names w.roots; next = w.next }

abbrev pub registered : List (Path × Root) → List RootName
registered [] = []
registered (entry ∷ entries) = record { path = entry.0; number = entry.1.number } ∷ registered entries

-- those of a registry
abbrev pub registry_roots : State → NumberedRoots
registry_roots s = record { roots = registered s.roots; next = s.next }

-- What stood as in a registry that accepts the command stands then as in that registry after the command
abbrev pub IsStepOf : Command → NumberedRoots → NumberedRoots → Type 0
IsStepOf command old new = (s : State) → changes s command ≡ true → registry_roots s ≡ old → new ≡ registry_roots (after_command s command)

-- ---- the rows with their roots and workers

module _ {H : Type 0} where
  -- if the row has its root, both workers of that are to be started
  abbrev pub root_workers : ℕ → Option H → WorkerList → WorkerList
  root_workers number None u = u
  root_workers number (Some watched) u = with_workers number u

  -- Without memory for the workers the row has no root
  abbrev pub HasWorkers : RootRow H → WorkerList → RootRow H → WorkerList → Type 0
  HasWorkers root u root' u' =
      ((root' ≡ root) × (u' ≡ root_workers root.number root.watched u)) ⊎ ((root' ≡ record root { watched = None }) × (u' ≡ u))

  -- The row stands behind the others, with both workers to be started if it has its root; if it may not be put, nothing changes
  abbrev pub PutsRoot : RootRow H → WatchedRoots H → WorkerList → WatchedRoots H → WorkerList → Type 0
  PutsRoot root old u new u' =
      MatchBool (may_put root.number old) ((put : RootRow H) × HasWorkers root u put u' × (new ≡ with_put_root put old)) ((new ≡ old) × (u' ≡ u))

  -- The row of the number has the root, and the workers are to be started, if it had none; else nothing changes
  abbrev pub FillsRoot : ℕ → H → WatchedRoots H → WorkerList → WatchedRoots H → WorkerList → Type 0
  FillsRoot number watched old u new u' =
      MatchBool (list_any (lacks_root number) old.roots)
      ((root : RootRow H) × ReplacesFirst (lacks_root number) old.roots root (record root { watched = Some watched } ∷ []) new.roots × (new.next ≡ old.next) × (u' ≡ with_workers number u))
      ((new ≡ old) × (u' ≡ u))

  -- the row of the number has the root of this row, if that has one
  abbrev pub FillsFrom : RootRow H → WatchedRoots H → WorkerList → WatchedRoots H → WorkerList → Type 0
  FillsFrom row old u new u' = MatchOption row.watched ((new ≡ old) × (u' ≡ u)) (λ watched. FillsRoot row.number watched old u new u')

  -- the root that was made, if the row gets the number that it was made for
  abbrev pub root_made : ℕ → Option (ℕ × H) → Option H
  root_made number None = None
  root_made number (Some made) = if made.0 == number then Some made.1 else None

  -- the first root of the path is gone, if there is one
  abbrev pub TakesRoot : Path → WatchedRoots H → WatchedRoots H → Type 0
  TakesRoot path old new =
      MatchBool (list_any (has_path path) old.roots)
      ((root : RootRow H) × ReplacesFirst (has_path path) old.roots root [] new.roots × (new.next ≡ old.next))
      (new ≡ old)

  -- a root that is watched gets the next number, one that isn't any longer is gone, and triggers leave the table as it is
  abbrev pub FollowsCommand : Command → Option (ℕ × H) → WatchedRoots H → WorkerList → WatchedRoots H → WorkerList → Type 0
  FollowsCommand Begin made old u new u' = (new ≡ old) × (u' ≡ u)
  FollowsCommand (Watch path) made old u new u' = PutsRoot (record { path = path; number = old.next; watched = root_made old.next made }) old u new u'
  FollowsCommand (WatchDel path) made old u new u' = TakesRoot path old new × (u' ≡ u)
  FollowsCommand (Trigger path trigger) made old u new u' = (new ≡ old) × (u' ≡ u)
  FollowsCommand (TriggerDel path name) made old u new u' = (new ≡ old) × (u' ≡ u)

  -- ---- what is left to do

  abbrev pub end_of_root : Option H → Followed H
  end_of_root None = Nothing
  end_of_root (Some watched) = Ended watched

  abbrev pub end_of_row : Option (RootRow H) → Followed H
  end_of_row None = Nothing
  end_of_row (Some root) = end_of_root root.watched

  -- the root of the row that was taken out ends, a trigger is defined, or one is deleted
  abbrev pub left_to_root : Command → List (RootRow H) → Followed H
  left_to_root Begin roots = Nothing
  left_to_root (Watch path) roots = Nothing
  left_to_root (WatchDel path) roots = end_of_row (find (has_path path) roots)
  left_to_root (Trigger path trigger) roots = Defined path trigger
  left_to_root (TriggerDel path name) roots = Deleted path name

-- the command takes a root out
abbrev pub ends_root : Command → Bool
ends_root Begin = false
ends_root (Watch path) = false
ends_root (WatchDel path) = true
ends_root (Trigger path trigger) = false
ends_root (TriggerDel path name) = false

-- the number of the last command that took a root out, once the one of this number was followed
abbrev pub ended_after : Command → ℕ → ℕ → ℕ
ended_after command number before = if ends_root command then number else before
