-- The crawls of a root that were asked for: each has a ticket, by which those who wait for it ask how it ended.
use Rattle.std.specs.Prelude.{◌≡◌, ◌⊎◌, MatchOption, ℕ, ◌+◌, ◌-◌, ◌^◌, ◌<◌, ◌≤◌, ◌==◌, Bool, true, false, ◌&&◌, min, List, [], ◌∷◌, ◌++◌, Option, None, Some, Result, Ok, Err, if◌then◌else◌}
use Rattle.std.specs.List.{find, list_any}
use Rattle.wm_disk.specs.declared.refusal.Refusal.{Refusal}
use Rattle.wm_disk.specs.declared.refusal.Refusal.TheVariants.{NotWatched}
use Rattle.wm_names.specs.Paths.{same_path}
use Rattle.wm_names.specs.declared.subtree.Subtree.{Subtree}
use Rattle.wm_names.specs.declared.subtree.Subtree.TheVariants.{Whole, Below}
use Rattle.wm_lines.specs.declared.progress.Progress.{Progress}
use Rattle.wm_root.specs.declared.asked_crawl.Stage.{Stage}
use Rattle.wm_root.specs.declared.asked_crawl.Stage.TheVariants.{Waiting, Running, Done, Refused}
use Rattle.wm_root.specs.declared.asked_crawl.AskedCrawl.{AskedCrawl}

pub record AskedState : Type 0 where
  pub crawls : List AskedCrawl  -- in the order in which they were asked for
  pub last_ticket : ℕ  -- that was given
  pub changes : ℕ  -- how often the view or the triggers may have changed
  pub has_ended : Bool  -- the root isn't watched any longer, or the server closes

-- the ticket of a crawl, and the part that was asked for
pub record AskedTicket : Type 0 where
  pub number : ℕ
  pub part : Subtree

-- the crawl of a ticket has begun, of a part of the root of a number; and how it ended when it was tried last
pub record CrawlBegun : Type 0 where
  pub root : ℕ
  pub ticket : ℕ
  pub part : Subtree
  pub ended : Result Progress Refusal

-- how a crawl ended of a part of the root of a number
pub record AwaitedEnd : Type 0 where
  pub root : ℕ
  pub part : Subtree
  pub ended : Result Progress Refusal

-- each ticket is above the ones before it, and none is above the last
abbrev pub TicketsRise : ℕ → List AskedCrawl → ℕ → Type 0
TicketsRise before [] last = before ≤ last
TicketsRise before (crawl ∷ crawls) last = (before < crawl.ticket) × TicketsRise crawl.ticket crawls last

-- ---- which crawl

-- it is asked for, and hasn't begun
abbrev pub is_at_rest : Stage → Bool
is_at_rest (Waiting part) = true
is_at_rest Running = false
is_at_rest (Done progress) = false
is_at_rest (Refused e) = false

-- it hasn't ended
abbrev pub is_open : Stage → Bool
is_open (Waiting part) = true
is_open Running = true
is_open (Done progress) = false
is_open (Refused e) = false

abbrev pub is_waiting : AskedCrawl → Bool
is_waiting crawl = is_at_rest crawl.stage

abbrev pub has_ticket : ℕ → AskedCrawl → Bool
has_ticket ticket crawl = crawl.ticket == ticket

abbrev pub is_pending : ℕ → AskedCrawl → Bool
is_pending ticket crawl = has_ticket ticket crawl && is_open crawl.stage

abbrev pub is_same_part : Subtree → Subtree → Bool
is_same_part Whole Whole = true
is_same_part Whole (Below other) = false
is_same_part (Below top) Whole = false
is_same_part (Below top) (Below other) = same_path top other

-- it is asked for, of the part
abbrev pub waits_for : Subtree → Stage → Bool
waits_for part (Waiting own) = is_same_part own part
waits_for part Running = false
waits_for part (Done progress) = false
waits_for part (Refused e) = false

-- who asks for the part now may wait for this one: it is of the part, and hasn't begun
abbrev pub serves : Subtree → AskedCrawl → Bool
serves part crawl = waits_for part crawl.stage

-- ---- what happens to one crawl

-- a new one, for which so many wait
abbrev pub new_crawl : ℕ → Subtree → ℕ → AskedCrawl
new_crawl ticket part waiters = record { ticket = ticket; stage = Waiting part; waiters = waiters }

-- one more waits for it
abbrev pub one_more_waits : AskedCrawl → List AskedCrawl
one_more_waits crawl = record crawl { waiters = min (crawl.waiters + 1) (2 ^ 64 - 1) } ∷ []

-- it has begun: its part is given away
abbrev pub running : AskedCrawl → List AskedCrawl
running crawl = record crawl { stage = Running } ∷ []

-- how a crawl has ended
abbrev pub end_stage : Result Progress Refusal → Stage
end_stage (Ok progress) = Done progress
end_stage (Err e) = Refused e

-- it has ended so, and is gone if nobody waits for it
abbrev pub ended_crawl : Result Progress Refusal → AskedCrawl → List AskedCrawl
ended_crawl ended crawl = if crawl.waiters == 0 then [] else record crawl { stage = end_stage ended } ∷ []

-- one of those who wait knows how it ended, and it is gone with the last of them
abbrev pub collected : AskedCrawl → List AskedCrawl
collected crawl = if crawl.waiters - 1 == 0 then [] else record crawl { waiters = crawl.waiters - 1 } ∷ []

-- how it ended for who waited: not at all if the root isn't watched any longer
abbrev pub stage_outcome : Stage → Result Progress Refusal
stage_outcome (Waiting part) = Err NotWatched
stage_outcome Running = Err NotWatched
stage_outcome (Done progress) = Ok progress
stage_outcome (Refused e) = Err e

abbrev pub crawl_outcome : Option AskedCrawl → Result Progress Refusal
crawl_outcome None = Err NotWatched
crawl_outcome (Some crawl) = stage_outcome crawl.stage

-- ---- what happens to the crawls

-- the first that passes the test is changed, and no other
abbrev pub with_first : (AskedCrawl → Bool) → (AskedCrawl → List AskedCrawl) → List AskedCrawl → List AskedCrawl
with_first test change [] = []
with_first test change (crawl ∷ crawls) = if test crawl then change crawl ++ crawls else crawl ∷ with_first test change crawls

abbrev pub with_changed : (AskedCrawl → Bool) → (AskedCrawl → List AskedCrawl) → AskedState → AskedState
with_changed test change asked = record asked { crawls = with_first test change asked.crawls }

-- a new crawl is the last, and its ticket is the last that was given
abbrev pub with_crawl : (ticket : ℕ) → Subtree → AskedState → AskedState
with_crawl ticket part asked = record asked { crawls = asked.crawls ++ new_crawl ticket part 1 ∷ []; last_ticket = ticket }

-- the first crawl that waits has the ticket and the part
abbrev pub IsFirstWaiting : (ticket : ℕ) → Subtree → List AskedCrawl → Type 0
IsFirstWaiting ticket part crawls = MatchOption (find is_waiting crawls) ⊥ (λ crawl. (ticket ≡ crawl.ticket) × (crawl.stage ≡ Waiting part))

-- the root has ended, or no crawl waits
abbrev pub IsWithoutWork : AskedState → Type 0
IsWithoutWork asked = (asked.has_ended ≡ true) ⊎ (list_any is_waiting asked.crawls ≡ false)
