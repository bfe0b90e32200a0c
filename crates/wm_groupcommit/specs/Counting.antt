-- Each seat's count of calls: a call is met once.
use Rattle.std.specs.Prelude.{◌≡◌, ◌<◌, ◌≤◌, ℕ, Bool, false, cond, nat_lt, List, [], ◌∷◌, length, Some, slice_get, slice_set, slice_index_or}
use Rattle.wm_groupcommit.specs.declared.queued.Call.{Call}

-- the call is newer than the last of its seat
abbrev pub is_newer : List ℕ → Call → Bool
is_newer counts c = cond (nat_lt c.seat (length counts)) (nat_lt (slice_index_or counts c.seat 0) c.count) false

abbrev pub counts_with : List ℕ → Call → List ℕ
counts_with counts c = cond (is_newer counts c) (slice_set counts c.seat c.count) counts

abbrev pub kept_newer : List ℕ → Call → List Call
kept_newer counts c = cond (is_newer counts c) (c ∷ []) []

-- those of the calls that are newer than their seat's last
abbrev pub newer_of : List ℕ → List Call → List Call
newer_of counts [] = []
newer_of counts (c ∷ cs) = cond (is_newer counts c) (c ∷ newer_of (counts_with counts c) cs) (newer_of (counts_with counts c) cs)

abbrev pub counts_after : List ℕ → List Call → List ℕ
counts_after counts [] = counts
counts_after counts (c ∷ cs) = counts_after (counts_with counts c) cs

-- the counts of a seat rise along the list, so no pair of seat and count stands there twice
abbrev pub CountsRise : List Call → Type 0
CountsRise list = (i j : ℕ) (c d : Call) → i < j → slice_get list i ≡ Some c → slice_get list j ≡ Some d → c.seat ≡ d.seat → c.count < d.count

-- these are at least the counts of each seat in the list
abbrev pub AreAbove : List ℕ → List Call → Type 0
AreAbove counts list = (i : ℕ) (c : Call) → slice_get list i ≡ Some c → (c.seat < length counts) × (c.count ≤ slice_index_or counts c.seat 0)

abbrev pub IsCounted : List ℕ → List Call → Type 0
IsCounted counts list = CountsRise list × AreAbove counts list
