-- Laws of histories: what each operation makes of what is known of a path, and what every history keeps.
use Rattle.std.specs.Prelude.{◌≡◌, ℕ, ◌+◌, ◌-◌, suc, ◌≤◌, ◌<◌, ◌⊎◌, Bool, true, false, not, ◌&&◌, cond, length, nat_lt, nat_le, List, [], ◌∷◌, Option, Some, None, is_some, unwrap_or, T}
use Rattle.std.specs.FinMap.{is_sorted}
use Rattle.wm_disk.specs.Counters.{max_counter}
use Rattle.wm_names.specs.Paths.{Path, path_cmp, same_path}
use Rattle.wm_names.specs.declared.entry.Meta.{Meta}
use Rattle.wm_names.specs.declared.subtree.Subtree.{Subtree}
use Rattle.wm_view.specs.declared.op.Op.{Op}
use Rattle.wm_view.specs.declared.known.Known.{Known}
use Rattle.wm_names.specs.Entries.{same_state}
use Rattle.wm_view.specs.Files.{Files, IsMap, at, is_in}
use Rattle.wm_view.specs.Histories.{History, Ticks, latest, newest_moment, newest, tick_of, up_to, differs, appears, last_change, change_moment, creation, creation_moment, last_meta, exists_now, grown, is_aged, aged_out, observed, recrawled, may_say, IsMade, map_at, is_ready, after_operation}
use Rattle.wm_view.specs.Summaries.{known_at}

-- what is known of a path whose state is new at the next tick
abbrev pub known_anew : History → ℕ → Path → Option Meta → Known
known_anew h moment p state =
    record {
      exists = is_some state;
      kind = (unwrap_or state (last_meta h.ticks p)).kind;
      size = (unwrap_or state (last_meta h.ticks p)).size;
      mtime_ms = (unwrap_or state (last_meta h.ticks p)).mtime_ms;
      last = tick_of h + 1;
      created = cond (is_some state && not (exists_now h p)) (tick_of h + 1) (creation h p);
      moment = moment;
      created_moment = cond (is_some state && not (exists_now h p)) moment (creation_moment h p);
    }

abbrev pub UnchangedStays : Type 0
UnchangedStays = (h : History) (moment : ℕ) (files : Files) (p : Path) → IsMade h → same_state (at files p) (at (newest h.ticks) p) ≡ true → known_at (grown h moment files) p ≡ known_at h p

abbrev pub ChangedIsAnew : Type 0
ChangedIsAnew = (h : History) (moment : ℕ) (files : Files) (p : Path) → IsMade h → same_state (at files p) (at (newest h.ticks) p) ≡ false → known_at (grown h moment files) p ≡ Some (known_anew h moment p (at files p))

abbrev pub AgedIsForgotten : Type 0
AgedIsForgotten = (h : History) (time age : ℕ) (p : Path) → known_at (aged_out h time age) p ≡ cond (is_aged h time age p) None (known_at h p)

-- n is the greatest tick at which the test holds, and 0 where there is none
abbrev pub IsGreatestTick : (Ticks → Bool) → Ticks → ℕ → Type 0
IsGreatestTick test ts n =
    ((u : ℕ) → 0 < u → u ≤ length ts → test (up_to u ts) ≡ true → u ≤ n)
    × (0 < n → (n ≤ length ts) × (test (up_to n ts) ≡ true))

abbrev pub LastChangeIsGreatest : Type 0
LastChangeIsGreatest = (h : History) (p : Path) → IsGreatestTick (λ ts. differs ts p) h.ticks (last_change h p)

abbrev pub CreationIsGreatest : Type 0
CreationIsGreatest = (h : History) (p : Path) → IsGreatestTick (λ ts. appears ts p) h.ticks (creation h p)

-- ---- what every history keeps that operations made

-- there is another moment, and n is at most that
abbrev pub IsWithin : ℕ → Option ℕ → Type 0
IsWithin n None = ⊥
IsWithin n (Some m) = n ≤ m

-- a forgotten path is gone, and changed last at the floor or before, and at the moment floor or before
abbrev pub Low : History → Type 0
Low h = (p : Path) → is_in p h.forgotten ≡ true → (exists_now h p ≡ false) × (last_change h p ≤ h.floor) × IsWithin (change_moment h p) h.moment_floor

abbrev pub ForgottenBelowFloor : Type 0
ForgottenBelowFloor = (h : History) → IsMade h → Low h

-- for private clauses
pub record IsOrderly (h : History) : Type 0 where
  pub low : Low h
  pub sorted : T (is_sorted path_cmp (newest h.ticks))

-- ---- moments

-- no tick has an earlier moment than the one before it
abbrev pub AreSteady : Ticks → Type 0
AreSteady [] = Unit {0}
AreSteady (t ∷ ts) = (newest_moment ts ≤ t.moment) × AreSteady ts

-- the last tick with a moment before this one, and 0 if there is none
abbrev pub tick_before : Ticks → ℕ → ℕ
tick_before ts m = latest (λ us. nat_lt (newest_moment us) m) ts

-- where no tick has an earlier moment than the one before it, what changed last at a moment or later is just what changed after the last
-- tick before that moment
abbrev pub SteadyMoments : Type 0
SteadyMoments = (h : History) (p : Path) (m : ℕ) → AreSteady h.ticks → 0 < last_change h p → nat_le m (change_moment h p) ≡ nat_lt (tick_before h.ticks m) (last_change h p)

-- ---- what one operation makes of a map, path by path

-- the state in which pairs taken in turn leave p: that of its last pair, and else the old one
abbrev pub last_told : List (Path × Option Meta) → Path → Option Meta → Option Meta
last_told [] p old = old
last_told (e ∷ es) p old = last_told es p (cond (same_path p e.0) e.1 old)

abbrev pub LastPairCounts : Type 0
LastPairCounts = (files : Files) (pairs : List (Path × Option Meta)) (p : Path) → at (observed files pairs) p ≡ last_told pairs p (at files p)

-- a recrawl gives what it lists where it may speak, and nothing where it lists nothing there; elsewhere all stays
abbrev pub RecrawlSpeaks : Type 0
RecrawlSpeaks = (h : History) (begun_at : ℕ) (subtree : Subtree) (listing : Files) (p : Path) → IsMap listing
    → at (recrawled h begun_at subtree listing) p ≡ cond (may_say h begun_at subtree p) (at listing p) (at (newest h.ticks) p)

-- ---- ticks

-- a change at a tick is a difference between the map there and the one before
abbrev pub ChangeIsDifference : Type 0
ChangeIsDifference = (h : History) (u : ℕ) (p : Path) → 0 < u → u ≤ tick_of h
    → differs (up_to u h.ticks) p ≡ not (same_state (at (map_at h u) p) (at (map_at h (u - 1)) p))

-- a coming into being at a tick: there at the tick, and not at the one before
abbrev pub CreationIsAppearance : Type 0
CreationIsAppearance = (h : History) (u : ℕ) (p : Path) → 0 < u → u ≤ tick_of h
    → appears (up_to u h.ticks) p ≡ (is_some (at (map_at h u) p) && not (is_some (at (map_at h (u - 1)) p)))

-- the map now is as it was at each path
abbrev pub IsAsBefore : History → History → Type 0
IsAsBefore new old = (p : Path) → at (newest new.ticks) p ≡ at (newest old.ticks) p

-- once ready, the tick stays where nothing changes, and rises by one in no other case
abbrev pub TickTellsChange : Type 0
TickTellsChange = (h : History) (op : Op) → IsMade h → is_ready h ≡ true
    → (IsAsBefore (after_operation h op) h × (tick_of (after_operation h op) ≡ tick_of h)) ⊎ ((IsAsBefore (after_operation h op) h → ⊥) × (tick_of (after_operation h op) ≡ suc (tick_of h)))

-- the tick stays in the range of a clock
abbrev pub TickInRange : Type 0
TickInRange = (h : History) → IsMade h → tick_of h ≤ max_counter
