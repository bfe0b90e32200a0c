-- Answers about a history since a clock or a moment.
use Rattle.std.specs.Prelude.{ℕ, zero, suc, Bool, true, not, ◌&&◌, cond, List, [], ◌∷◌, map, nat_lt, nat_le, ◌==◌, Option, Some, None, is_some}
use Rattle.std.specs.List.{filter, flat_map}
use Rattle.wm_names.specs.Paths.{Path}
use Rattle.wm_names.specs.declared.entry.Entry.{Entry}
use Rattle.wm_clock.specs.declared.clock_id.ClockId.{ClockId}
use Rattle.wm_view.specs.declared.known.Known.{Known}
use Rattle.wm_view.specs.Files.{Paths, is_in}
use Rattle.wm_view.specs.Histories.{History, tick_of, last_change, change_moment, creation, creation_moment, has_changed, exists_now, last_meta, ever, ready_moment}
use Rattle.wm_view.specs.Summaries.{Knowns, known_meta, Summary, changed_from_moment, changed_since, existing_now}
use Rattle.wm_since.specs.declared.listed.Listed.{Listed}
use Rattle.wm_since.specs.declared.query.Query.{Query}
use Rattle.wm_since.specs.declared.query.Since.{Since}
use Rattle.wm_since.specs.declared.query.Since.TheVariants.{Clock, Moment}
use Rattle.wm_since.specs.declared.query.Answer.{Answer}

-- a query without its test
pub record Question : Type 0 where
  pub since : Option Since
  pub empty_on_fresh : Bool

abbrev pub question : {T : Type 0} → Query T → Question
question q = record { since = q.since; empty_on_fresh = q.empty_on_fresh }

-- a start at the clock, if there is one
abbrev pub from_clock : Option ClockId → Option Since
from_clock None = None
from_clock (Some c) = Some (Clock c)

-- the present clock
abbrev pub clock_of : History → ClockId
clock_of h = record { incarnation = h.incarnation; root = h.root; tick = tick_of h }

-- the history can tell what changed since the clock
abbrev pub can_tell : History → ClockId → Bool
can_tell h c = (c.incarnation == h.incarnation) && (c.root == h.root) && nat_le h.floor c.tick && nat_le c.tick (tick_of h)

-- later than the other, if there is another
abbrev pub is_after : ℕ → Option ℕ → Bool
is_after m None = true
is_after m (Some n) = nat_lt n m

-- the history can tell what changed at the moment or later: it was ready by then, and forgot no change of then or later
abbrev pub can_tell_from : History → ℕ → Bool
can_tell_from h m = nat_le (ready_moment h) m && is_after m h.moment_floor

abbrev pub is_fresh : History → Option Since → Bool
is_fresh h None = true
is_fresh h (Some (Clock c)) = not (can_tell h c)
is_fresh h (Some (Moment m)) = not (can_tell_from h m)

-- ---- what an answer lists

abbrev pub entry_of : History → Path → Entry
entry_of h p = record { path = p; exists = exists_now h p; meta = last_meta h.ticks p }

abbrev pub matches_now : History → (Entry → Bool) → Path → Bool
matches_now h passes p = passes (entry_of h p)

-- n down to 1
abbrev pub down_from : ℕ → List ℕ
down_from zero = []
down_from (suc n) = suc n ∷ down_from n

-- the paths that pass, by their last change, the latest first, and at one tick in the order of the paths
abbrev pub by_change : History → (Path → Bool) → Paths
by_change h test = flat_map (λ u. filter (λ p. (last_change h p == u) && test p) (ever h.ticks)) (down_from (tick_of h))

abbrev pub listed : History → (Path → Bool) → Path → Listed
listed h is_new p = record { entry = entry_of h p; is_new = is_new p; last = last_change h p; created = creation h p }

-- what exists and matches, all new
abbrev pub all_existing : History → (Entry → Bool) → List Listed
all_existing h passes = map (listed h (λ p. true)) (by_change h (λ p. exists_now h p && matches_now h passes p))

-- what changed after tick t and matches now, and is new where it came into being after t
abbrev pub difference : History → (Entry → Bool) → ℕ → List Listed
difference h passes t = map (listed h (λ p. nat_lt t (creation h p))) (by_change h (λ p. has_changed h t p && matches_now h passes p))

-- p changed last at the moment or later, and isn't forgotten
abbrev pub has_changed_from : History → ℕ → Path → Bool
has_changed_from h m p = has_changed h 0 p && (not (is_in p h.forgotten) && nat_le m (change_moment h p))

-- what changed last at the moment or later and matches now; new is what came into being at the moment or later
abbrev pub difference_from : History → (Entry → Bool) → ℕ → List Listed
difference_from h passes m = map (listed h (λ p. nat_le m (creation_moment h p))) (by_change h (λ p. has_changed_from h m p && matches_now h passes p))

-- what changed since the start, if there is one
abbrev pub difference_since : History → (Entry → Bool) → Option Since → List Listed
difference_since h passes None = []
difference_since h passes (Some (Clock c)) = difference h passes c.tick
difference_since h passes (Some (Moment m)) = difference_from h passes m

abbrev pub answer_to : (Entry → Bool) → History → Question → Answer
answer_to passes h q =
    record {
      clock = clock_of h;
      fresh = is_fresh h q.since;
      files = cond (is_fresh h q.since) (cond q.empty_on_fresh [] (all_existing h passes)) (difference_since h passes q.since);
    }

-- ---- the same from the summary alone

abbrev pub tells_from : Summary → ℕ → Bool
tells_from s m = nat_le s.ready_moment m && is_after m s.moment_floor

-- the start, where what changed since then can be told
abbrev pub answerable_since : Summary → Option Since → Option Since
answerable_since s None = None
answerable_since s (Some (Clock c)) = cond ((c.incarnation == s.incarnation) && (c.root == s.root) && nat_le s.floor c.tick && nat_le c.tick s.tick) (Some (Clock c)) None
answerable_since s (Some (Moment m)) = cond (tells_from s m) (Some (Moment m)) None

abbrev pub is_new : Option Since → Known → Bool
is_new None k = true
is_new (Some (Clock c)) k = nat_lt c.tick k.created
is_new (Some (Moment m)) k = nat_le m k.created_moment

abbrev pub changed_in : Summary → Since → Knowns
changed_in s (Clock c) = changed_since s c.tick
changed_in s (Moment m) = changed_from_moment s m

abbrev pub entry_in : Path × Known → Entry
entry_in e = record { path = e.0; exists = e.1.exists; meta = known_meta e.1 }

abbrev pub listed_in : Option Since → Path × Known → Listed
listed_in since e = record { entry = entry_in e; is_new = is_new since e.1; last = e.1.last; created = e.1.created }

abbrev pub listed_all : (Entry → Bool) → Option Since → Knowns → List Listed
listed_all passes since known = map (listed_in since) (filter (λ e. passes (entry_in e)) known)

abbrev pub files_by : (Entry → Bool) → Summary → Bool → Option Since → List Listed
files_by passes s empty_on_fresh None = cond empty_on_fresh [] (listed_all passes None (existing_now s))
files_by passes s empty_on_fresh (Some since) = listed_all passes (Some since) (changed_in s since)

abbrev pub answer_by : (Entry → Bool) → Summary → Question → Answer
answer_by passes s q =
    record {
      clock = record { incarnation = s.incarnation; root = s.root; tick = s.tick };
      fresh = not (is_some (answerable_since s q.since));
      files = files_by passes s q.empty_on_fresh (answerable_since s q.since);
    }
