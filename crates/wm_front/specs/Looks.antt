-- How the registry was looked at, as the session's seat knows it.
use Rattle.std.specs.Prelude.{◌≡◌, ◌≢◌, ℕ, Option, Some, None}
use Rattle.wm_names.specs.Paths.{Path}
use Rattle.wm_registry.specs.Roots.{State, root_at}
use Rattle.wm_groupcommit.specs.declared.seat.Seat.{Seat}
use Rattle.wm_front.specs.Commands.{IsRegistryAfter, IsSatOn, SeatGoesOn, seen_by}

-- The registry is that after so many commands of the list that the seat then knows, no fewer than it had seen; it has then seen these.
pub record IsLookedAt (old : Seat) (registry : State) (count : ℕ) (new : Seat) : Type 0 where
  pub after : IsRegistryAfter old.seen new registry
  pub at : after.at ≡ count
  pub seen : new.seen ≡ count

-- the session's seat, or a new one, found the registry so after so many commands
abbrev pub IsLookedBy : Option Seat → State → ℕ → Option Seat → Type 0
IsLookedBy old registry count now = (seat : Seat) × (new : Seat) × IsSatOn old seat × (now ≡ Some new) × SeatGoesOn seat new × IsLookedAt seat registry count new

-- the session's seat found the registry so
abbrev pub IsShownTo : Option Seat → State → Option Seat → Type 0
IsShownTo old registry now = (new : Seat) × (now ≡ Some new) × IsRegistryAfter (seen_by old) new registry

-- no root of the path is watched, after all that the seat had seen
abbrev pub IsUnwatchedAfter : Path → Option Seat → Option Seat → Type 0
IsUnwatchedAfter path old now = (registry : State) × IsShownTo old registry now × (root_at path registry ≡ None)

-- a root of the path is watched, after all that the seat had seen
abbrev pub IsWatchedAfter : Path → Option Seat → Option Seat → Type 0
IsWatchedAfter path old now = (registry : State) × IsShownTo old registry now × (root_at path registry ≢ None)
