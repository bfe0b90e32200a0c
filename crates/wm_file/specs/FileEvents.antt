-- The calls of a real file with their answers, and what an honest file answers.
use Rattle.std.specs.Prelude.{◌≡◌, ◌⊎◌, ⊤, ℕ, ◌+◌, ◌≤◌, ◌==◌, nat_lt, Bool, true, false, if◌then◌else◌, List, [], ◌∷◌, ◌++◌, length, take, drop, slice_index}
use Rattle.wm_disk.specs.Contents.{overwritten}
use Rattle.wm_disk.specs.Counters.{max_counter}
use Rattle.wm_disk.specs.Points.{Point, new_point, MayLeave}
use Rattle.wm_disk.specs.declared.memory.Range.{Range}

-- A call with its answer: the length that was told, the place and the bytes that were read or written, or the place and the count of a read that failed.
pub data Event : Type 0 where
  measured : ℕ → Event
  read : ℕ → List ℕ → Event
  wrote : ℕ → List ℕ → Event
  synced : Event
  measure_failed : Event
  read_failed : ℕ → ℕ → Event
  write_failed : ℕ → List ℕ → Event
  sync_failed : Event

-- the event that the numbers of a call stand for: a code, a place, and a count or a length
abbrev pub event_of : List ℕ → List ℕ → Event
event_of numbers bytes =
    let code = slice_index numbers 0 in
    let at = slice_index numbers 1 in
    let len = slice_index numbers 2 in
    if code == 0 then measured len
    else if code == 1 then read at bytes
    else if code == 2 then wrote at bytes
    else if code == 3 then synced
    else if code == 4 then measure_failed
    else if code == 5 then read_failed at len
    else if code == 6 then write_failed at bytes
    else sync_failed

-- the writes that a crash may tear, with this one
abbrev pub writes_with : Point → ℕ → List ℕ → List Range
writes_with p at bytes = p.writes ++ record { at = at; len = length bytes } ∷ []

-- The point after one call more. A write that failed is not seen by a read, and a crash may leave any bytes in its range. A sync that failed did nothing.
abbrev pub after_event : Point → Event → Point
after_event p (wrote at bytes) = record { durable = p.durable; writes = writes_with p at bytes; seen = overwritten p.seen at bytes }
after_event p (write_failed at bytes) = record { durable = p.durable; writes = writes_with p at bytes; seen = p.seen }
after_event p synced = record { durable = p.seen; writes = []; seen = p.seen }
after_event p (measured n) = p
after_event p (read at bytes) = p
after_event p measure_failed = p
after_event p (read_failed at n) = p
after_event p sync_failed = p

-- the point of a file that held this content when it was opened, after these calls, of which the newest comes first
abbrev pub point_after : List ℕ → List Event → Point
point_after content [] = new_point content
point_after content (event ∷ earlier) = after_event (point_after content earlier) event

-- The model gives this answer. A call may always fail, and a sync is taken at its word.
abbrev pub Agrees : Point → Event → Type 0
Agrees p (measured n) = n ≡ length p.seen
Agrees p (read at bytes) = bytes ≡ take (length bytes) (drop at p.seen)
Agrees p (wrote at bytes) = ⊤
Agrees p synced = ⊤
Agrees p measure_failed = ⊤
Agrees p (read_failed at n) = ⊤
Agrees p (write_failed at bytes) = ⊤
Agrees p sync_failed = ⊤

-- whether the call failed
abbrev pub is_failed_call : Event → Bool
is_failed_call (measured n) = false
is_failed_call (read at bytes) = false
is_failed_call (wrote at bytes) = false
is_failed_call synced = false
is_failed_call measure_failed = true
is_failed_call (read_failed at n) = true
is_failed_call (write_failed at bytes) = true
is_failed_call sync_failed = true

-- one failure more, in a count that stops at its last value
abbrev pub one_failure_more : ℕ → ℕ
one_failure_more n = if nat_lt n max_counter then n + 1 else n

-- how many of these calls failed
abbrev pub failures_of : List Event → ℕ
failures_of [] = 0
failures_of (event ∷ earlier) = if is_failed_call event then one_failure_more (failures_of earlier) else failures_of earlier

-- each answer is that of the model, for a file that held this content
abbrev pub IsHonest : List ℕ → List Event → Type 0
IsHonest content [] = ⊤
IsHonest content (event ∷ earlier) = IsHonest content earlier × Agrees (point_after content earlier) event

-- what a crash after the t-th call or a later one might have left
abbrev pub FileLeftSince : List ℕ → List Event → ℕ → List ℕ → Type 0
FileLeftSince content [] t c = MayLeave (new_point content) c
FileLeftSince content (event ∷ earlier) t c = MayLeave (point_after content (event ∷ earlier)) c ⊎ ((t ≤ length earlier) × FileLeftSince content earlier t c)
