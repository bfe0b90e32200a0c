-- Readings of a root, what is observed meanwhile, and what was published since they began.
use Rattle.std.specs.Prelude.{◌≡◌, ◌⊎◌, ℕ, ◌==◌, Bool, true, false, List, Option, Some, None, Result, Ok, Err, nat_lt, if◌then◌else◌}
use Rattle.wm_disk.specs.declared.refusal.Refusal.{Refusal}
use Rattle.wm_disk.specs.declared.refusal.Refusal.TheVariants.{BadClock, NoMemory}
use Rattle.wm_names.specs.Paths.{Path}
use Rattle.wm_names.specs.declared.entry.Meta.{Meta}
use Rattle.wm_names.specs.declared.subtree.Subtree.{Subtree}
use Rattle.wm_clock.specs.declared.clock_id.ClockId.{ClockId}
use Rattle.wm_view.specs.HistoryLaws.{last_told}
use Rattle.wm_view.specs.Files.{Files}
use Rattle.wm_view.specs.Listings.{Found}
use Rattle.wm_view.specs.declared.op.Op.{Op}
use Rattle.wm_view.specs.declared.op.Op.TheVariants.{Observe, Recrawl}
use Rattle.wm_root.specs.Overlays.{Noted, overlaid_state}
use Rattle.wm_share.specs.PublishedLists.{PublishedList, clock_shown, history}

-- the tick of a clock; 0 if there is none, before the first whole listing
abbrev pub tick_shown : Option ClockId → ℕ
tick_shown None = 0
tick_shown (Some clock) = clock.tick

-- the clock of what was published last
abbrev pub clock_last : Option PublishedList → Option ClockId
clock_last None = None
clock_last (Some list) = clock_shown (history list)

-- what a reading of a number found, and the tick at which the root was when it began
pub record Read : Type 0 where
  pub number : ℕ
  pub begun_at : ℕ
  pub listing : Found

-- what a reading found is of the part, and if the tree stays its files are listed so
abbrev pub IsPartRead : Subtree → (Stays : Type 0) → (IsListed : Files → Type 0) → Read → Type 0
IsPartRead part Stays IsListed found = (found.listing.subtree ≡ part) × (Stays → IsListed found.listing.files)

-- whether the operation is a reading that began before the tick
abbrev pub is_begun_before : ℕ → Op → Bool
is_begun_before tick (Recrawl moment begun_at listing) = nat_lt begun_at tick
is_begun_before tick _ = false

-- the pairs of an observation; none of another operation
abbrev pub pairs_in : Op → Option (List (Path × Option Meta))
pairs_in (Observe moment pairs) = Some pairs
pairs_in _ = None

-- the pairs of an observation are noted in their order, unless one was left out; of another operation nothing is
abbrev pub Notes : Option (List (Path × Option Meta)) → Noted → Noted → Type 0
Notes None old new = new ≡ old
Notes (Some pairs) old new = new.incomplete ≡ false → (old.incomplete ≡ false) × ((p : Path) (read : Option Meta) → overlaid_state new p read ≡ last_told pairs p (overlaid_state old p read))

-- what is noted for the reading of a number: nothing if another one has begun last
abbrev pub notes_of : ℕ → ℕ → Option Noted → Option Noted
notes_of number last notes = if number == last then notes else None

-- what is noted of the pairs that were copied out of an operation; without memory for them the reading has to be done again
abbrev pub IsNotedIf : {E : Type 0} → Result (Option (List (Path × Option Meta))) E → Option Noted → Option Noted → Type 0
IsNotedIf pairs None new = new ≡ None
IsNotedIf (Ok pairs) (Some old) new = (noted : Noted) × (new ≡ Some noted) × Notes pairs old noted
IsNotedIf (Err e) (Some old) new = (noted : Noted) × (new ≡ Some noted) × (noted.incomplete ≡ true)

-- what is noted, if a reading is under way
abbrev pub NotesIf : Option (List (Path × Option Meta)) → Option Noted → Option Noted → Type 0
NotesIf pairs None new = new ≡ None
NotesIf pairs (Some old) new = (noted : Noted) × (new ≡ Some noted) × Notes pairs old noted

-- A reading isn't handed in: memory ran out; or it has to be done again, since an observation was left out or no reading is under way.
abbrev pub IsUnread : Option Noted → Refusal → Type 0
IsUnread None e = e ≡ BadClock
IsUnread (Some noted) e = ((e ≡ BadClock) × (noted.incomplete ≡ true)) ⊎ ((e ≡ NoMemory) × (noted.incomplete ≡ false))
