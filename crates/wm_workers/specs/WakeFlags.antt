-- What wakes the thread that sends a session the lines that are due to it.
use Rattle.std.specs.Prelude.{◌≡◌, ℕ, ◌==◌, not, bit_and, bit_or, Bool, true, false, if◌then◌else◌, List, map, MatchOption, slice_get, slice_set}
use Rattle.std.specs.Option.{option_map_or}
use Rattle.wm_workers.specs.declared.wakes.state.Wake.{Wake}
use Rattle.wm_workers.specs.declared.wakes.state.Wake.TheVariants.{Clear, Set, Closed}
use Rattle.wm_workers.specs.declared.wakes.state.WakeState.{WakeState}

abbrev pub is_clear : Wake → Bool
is_clear Clear = true
is_clear Set = false
is_clear Closed = false

abbrev pub is_not_closed : Wake → Bool
is_not_closed Clear = true
is_not_closed Set = true
is_not_closed Closed = false

-- lines may be due
abbrev pub set_wake : Wake → Wake
set_wake Clear = Set
set_wake Set = Set
set_wake Closed = Closed

-- the thread is awake
abbrev pub taken_wake : Wake → Wake
taken_wake Clear = Clear
taken_wake Set = Clear
taken_wake Closed = Closed

-- the bit of a root is in both
abbrev pub has_common : ℕ → ℕ → Bool
has_common roots others = not (bit_and roots others == 0)

-- the bit of a root is in the new ones that wasn't in those before
abbrev pub has_more : ℕ → ℕ → Bool
has_more before roots = not (bit_or before roots == before)

-- ---- what a flag is after a step

-- the session has subscriptions on these roots, and lines may be due if there are more of them
abbrev pub noted_flag : ℕ → WakeState → WakeState
noted_flag roots s = record { wake = if has_more s.roots roots then set_wake s.wake else s.wake; roots = roots }

-- the server closes
abbrev pub closed_flag : WakeState → WakeState
closed_flag s = record s { wake = Closed }

-- the thread has looked
abbrev pub taken_flag : WakeState → WakeState
taken_flag s = record s { wake = taken_wake s.wake }

-- these roots have changed: lines may be due if the session has a subscription on one of them
abbrev pub notified_flag : ℕ → WakeState → WakeState
notified_flag roots s = if has_common s.roots roots then record s { wake = set_wake s.wake } else s

-- ---- the flags of all slots

-- a server has so many slots
abbrev pub slot_count : ℕ
slot_count = 31

-- the flag of the slot of the number is clear
abbrev pub is_clear_at : ℕ → List WakeState → Bool
is_clear_at slot flags = option_map_or (λ s. is_clear s.wake) (slice_get flags slot) false

-- whether the thread of the slot of the number goes on
abbrev pub goes_on_at : ℕ → List WakeState → Bool
goes_on_at slot flags = option_map_or (λ s. is_not_closed s.wake) (slice_get flags slot) false

-- the flag of the slot of the number is changed so, and each other stays; if there is no such slot, all stay
abbrev pub ChangesFlag : ℕ → (WakeState → WakeState) → List WakeState → List WakeState → Type 0
ChangesFlag slot change old new = MatchOption (slice_get old slot) (new ≡ old) (λ s. new ≡ slice_set old slot (change s))

-- each flag was notified of a change of these roots, at some moment
unfoldable pub HasNotified : ℕ → Type 0
HasNotified roots = (old : List WakeState) × (new : List WakeState) × (new ≡ map (notified_flag roots) old)
