-- What a reading that is handed in leaves: what is reported of it, and the list that is published.
use Rattle.std.specs.Prelude.{◌≡◌, ◌⊎◌, ℕ, Bool, false, MatchBool, Option, Some, Result, Err}
use Rattle.wm_disk.specs.declared.refusal.Refusal.{Refusal}
use Rattle.wm_disk.specs.declared.refusal.Refusal.TheVariants.{BadClock}
use Rattle.wm_lines.specs.declared.progress.Progress.{Progress}
use Rattle.wm_names.specs.declared.subtree.Subtree.{Subtree}
use Rattle.wm_view.specs.Files.{Files}
use Rattle.wm_view.specs.Listings.{Found}
use Rattle.wm_view.specs.declared.op.Op.TheVariants.{Recrawl}
use Rattle.wm_share.specs.PublishedLists.{PublishedList}
use Rattle.wm_root.specs.ChangeSeen.{IsEndOf, IsUnpublished}
use Rattle.wm_root.specs.Overlays.{IsOverlaid, Noted}
use Rattle.wm_root.specs.Readings.{IsPartRead, IsUnread, Read}
use Rattle.wm_root.specs.RootStates.{IsOperated, RootState}
use Rattle.wm_root.specs.declared.retention.Retention.{Retention}

-- The list ends with the listing of the reading at a second, and is reported. Of each path of the reading's part the listing has what was observed
-- last since the reading began, and else what was read.
abbrev pub IsReadingEnd : (moment : ℕ) → Read → PublishedList → Result Progress Refusal → Type 0
IsReadingEnd moment found list result = (noted : Noted) × (listing : Found) × IsOverlaid noted found.listing listing × IsEndOf (Recrawl moment found.begun_at listing) list result

-- the reading isn't published: as a change isn't, or it has to be done again
abbrev pub IsUnpublishedReading : Result Progress Refusal → Type 0
IsUnpublishedReading result = IsUnpublished result ⊎ (result ≡ Err BadClock)

-- it was published so in a list, at a second that may be read; or it wasn't
abbrev pub IsReadingSeen : (ℕ → Type 0) → Read → (is_published : Bool) → Result Progress Refusal → Type 0
IsReadingSeen MayRead found is_published result =
    MatchBool is_published ((list : PublishedList) × (moment : ℕ) × MayRead moment × IsReadingEnd moment found list result) (IsUnpublishedReading result)

-- What a root makes of a reading, with what was observed meanwhile: its listing is an operation, refused BadClock if it is overtaken; or it isn't handed
-- in, and nothing changes.
abbrev pub IsTakenIn : Retention → (moment : ℕ) → Read → (observed : Option Noted) → RootState → RootState → Option PublishedList → (is_published : Bool) → Result Progress Refusal → Type 0
IsTakenIn retention moment found observed before after last is_published result =
    ((noted : Noted) × (listing : Found) × (observed ≡ Some noted) × (noted.incomplete ≡ false) × IsOverlaid noted found.listing listing
    × IsOperated retention (Recrawl moment found.begun_at listing) BadClock before after last is_published result)
    ⊎ ((e : Refusal) × (result ≡ Err e) × (is_published ≡ false) × IsUnread observed e × (after ≡ before))

-- a reading found what stays in the tree of the part, and was published so; or it wasn't
abbrev pub IsPartSeen : (ℕ → Type 0) → Subtree → (Stays : Type 0) → (IsListed : Files → Type 0) → (is_published : Bool) → Result Progress Refusal → Type 0
IsPartSeen MayRead part Stays IsListed is_published result = (found : Read) × IsPartRead part Stays IsListed found × IsReadingSeen MayRead found is_published result
