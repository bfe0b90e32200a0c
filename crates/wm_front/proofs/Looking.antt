-- What a look at the registry tells a session.
use Rattle.std.specs.Prelude.{◌≤◌, Option, Some, None}
use Rattle.std.proofs.Common.{◌≡◌, ◌⊎◌, inl, inr, ℕ, ap, subst, arith}
use Rattle.wm_disk.specs.declared.refusal.Refusal.{Refusal}
use Rattle.wm_disk.specs.declared.refusal.Refusal.TheVariants.{NoMemory, NotWatched}
use Rattle.wm_names.specs.Paths.{Path}
use Rattle.wm_registry.specs.Roots.{State}
use Rattle.wm_groupcommit.specs.declared.seat.Seat.{Seat}
use Rattle.wm_front.specs.Commands.{IsRegistryAfter, IsSatOn, KeepsSeat, SeatGoesOn, seen_by}
use Rattle.wm_front.specs.Looks.{IsLookedBy, IsShownTo, IsUnwatchedAfter}

-- fewer were seen before
fewer : (less seen : ℕ) (new : Seat) (r : State) → less ≤ seen → IsRegistryAfter seen new r → IsRegistryAfter less new r
fewer less seen new r le after = record { base = after.base; at = after.at; found = after.found; later = (omega (arith, le, after.later.0), after.later.1); registry_is = after.registry_is }

-- what a seat that is sat on had seen
sat_seen : (old : Option Seat) (seat : Seat) → IsSatOn old seat → seen_by old ≤ seat.seen
sat_seen None seat sat = omega arith
sat_seen (Some old) seat sat = let is : seat.seen ≡ old.seen = ap (λ (s : Seat). s.seen) sat in omega (arith, is)

pub shown_to : (old now : Option Seat) (r : State) (count : ℕ) → IsLookedBy old r count now → IsShownTo old r now
shown_to old now r count (seat, new, sat, is, goes, looked) = (new, is, fewer (seen_by old) seat.seen new r (sat_seen old seat sat) looked.after)

-- it was shown after as many commands as were counted
pub shown_at : (old now : Option Seat) (r : State) (count : ℕ) (l : IsLookedBy old r count now) → (shown_to old now r count l).2.at ≡ count
unfolding shown_to fewer
shown_at old now r count (seat, new, sat, is, goes, looked) = looked.at

-- a session that keeps its seat has seen no less
kept_seen : (old mid : Option Seat) → KeepsSeat old mid → seen_by old ≤ seen_by mid
kept_seen None mid keeps = omega arith
kept_seen (Some old) mid (new, is, goes) = let same : seen_by mid ≡ new.seen = ap seen_by is in omega (arith, same, goes.1)

pub unwatched_since : (path : Path) (old mid now : Option Seat) → KeepsSeat old mid → IsUnwatchedAfter path mid now → IsUnwatchedAfter path old now
unwatched_since path old mid now keeps (r, (new, is, after), none) = (r, (new, is, fewer (seen_by old) (seen_by mid) new r (kept_seen old mid keeps) after), none)

-- a seat that is sat on goes on
pub sat_keeps : (old now : Option Seat) (seat new : Seat) → IsSatOn old seat → now ≡ Some new → SeatGoesOn seat new → KeepsSeat old now
sat_keeps None now seat new sat is goes = tt
sat_keeps (Some old) now seat new sat is goes = (new, is, subst (λ (s : Seat). SeatGoesOn s new) sat goes)

-- what a confirmation refuses it refuses after all that was seen earlier
pub refused_since : (path : Path) (old mid now : Option Seat) (e : Refusal) → KeepsSeat old mid → (e ≡ NoMemory) ⊎ ((e ≡ NotWatched) × IsUnwatchedAfter path mid now) → (e ≡ NoMemory) ⊎ ((e ≡ NotWatched) × IsUnwatchedAfter path old now)
refused_since path old mid now e keeps (inl is) = inl is
refused_since path old mid now e keeps (inr (is, gone)) = inr (is, unwatched_since path old mid now keeps gone)
