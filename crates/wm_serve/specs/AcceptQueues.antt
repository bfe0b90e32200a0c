-- The sessions that were admitted and wait for a connection slot, and those that have one.
use Rattle.std.specs.Prelude.{◌≡◌, ◌<◌, ◌≤◌, ℕ, ◌+◌, ◌-◌, ◌++◌, ◌∷◌, max, Bool, true, false, List, [], length, Result, MatchBool, MatchResult}
use Rattle.wm_disk.specs.declared.refusal.Refusal.{Refusal}
use Rattle.wm_disk.specs.declared.refusal.Refusal.TheVariants.{NoMemory, TooMany}
use Rattle.wm_serve.specs.declared.socket.accept_queue.TurnedAway.{TurnedAway}

-- the sessions that wait, in the order of their coming, how many have a slot, how many may be there at once, and whether no other comes
pub record SessionQueue (T : Type 0) : Type 0 where
  pub waiting : List T
  pub served : ℕ
  pub slots : ℕ
  pub is_closed : Bool

-- nobody is there, and nobody may be
abbrev pub empty_queue : {T : Type 0} → SessionQueue T
empty_queue = record { waiting = []; served = 0; slots = 0; is_closed = false }

-- how many sessions are there
abbrev pub sessions_present : {T : Type 0} → SessionQueue T → ℕ
sessions_present q = length q.waiting + q.served

-- so many may be there at once, if no more might already
abbrev pub opened_queue : {T : Type 0} → ℕ → SessionQueue T → SessionQueue T
opened_queue slots q = record q { slots = max q.slots slots }

-- why a session isn't admitted: each slot is taken, or else memory ran out
abbrev pub turned_away_by : Bool → Refusal
turned_away_by true = TooMany
turned_away_by false = NoMemory

-- the session waits behind the others; or each slot is taken, or memory ran out while one isn't: the session comes back then, and nothing changes
abbrev pub IsAdmitted : {T U : Type 0} → T → SessionQueue T → SessionQueue T → Result U (TurnedAway T) → Type 0
IsAdmitted session old new admitted =
    MatchResult admitted (λ _. (sessions_present old < old.slots) × (new ≡ record old { waiting = old.waiting ++ session ∷ [] }))
    (λ away. (away.session ≡ session) × (new ≡ old) × MatchBool away.is_full (old.slots ≤ sessions_present old) (sessions_present old < old.slots))

-- a slot has the session that came first
abbrev pub IsFirstSession : {T : Type 0} → T → SessionQueue T → SessionQueue T → Type 0
IsFirstSession session old new = (old.waiting ≡ session ∷ new.waiting) × (new ≡ record old { waiting = new.waiting; served = old.served + 1 })

-- a session that had a slot has ended
abbrev pub left_queue : {T : Type 0} → SessionQueue T → SessionQueue T
left_queue q = record q { served = q.served - 1 }

-- no session comes any longer
abbrev pub closed_queue : {T : Type 0} → SessionQueue T → SessionQueue T
closed_queue q = record q { is_closed = true }
