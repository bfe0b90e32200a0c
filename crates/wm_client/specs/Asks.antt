-- What the question about a root's number came to.
use Rattle.std.specs.Prelude.{◌≡◌, ◌≢◌, ◌∷◌, ⊤, ℕ, true, List, [], Option, Some}
use Rattle.std.specs.Io.BufRead.{drop_through, take_through}
use Rattle.wm_disk.specs.declared.refusal.Refusal.TheVariants.{NotReady}
use Rattle.wm_client.specs.RefusalLines.{is_refused_by}
use Rattle.wm_client.specs.Syncs.{IsClockOf, LacksClock}
use Rattle.wm_client.specs.Talks.{Prints, PrintsLines}
use Rattle.wm_client.specs.declared.syncing.Asked.{Asked}
use Rattle.wm_client.specs.declared.syncing.Asked.TheVariants.{Root, Unreadable, Ended}
use Rattle.wm_client.specs.declared.talking.TalkEnd.TheVariants as talk

-- what a line tells
abbrev pub TellsRoot : List ℕ → Asked → Type 0
TellsRoot line (Root root) = IsClockOf line root
TellsRoot line Unreadable = LacksClock line
TellsRoot line (Ended end) = ⊥

-- What was printed of the first line of an input, and what is left of it behind. Of a clock, and of what has none, nothing is printed.
abbrev pub Asks : List ℕ → Option (List ℕ) → Option (List ℕ) → Option (List ℕ) → Asked → Type 0
Asks input held holds left (Root root) = IsClockOf (take_through 10 input) root × (left ≡ Some (drop_through 10 input)) × (holds ≡ held)
Asks input held holds left Unreadable = LacksClock (take_through 10 input) × (holds ≡ held)
Asks input held holds left (Ended end) = Prints 0 input held holds end

-- The same, whatever came. A refusal for now is printed only if the time is over.
abbrev pub AsksWhole : Type 0 → Option (List ℕ) → Option (List ℕ) → Asked → Type 0
AsksWhole over held holds (Root root) = holds ≡ held
AsksWhole over held holds (Ended talk.Refused) = (reply : List ℕ) × PrintsLines (reply ∷ []) held holds × (is_refused_by NotReady reply ≡ true → over)
AsksWhole over held holds (Ended end) = end ≢ talk.Told
AsksWhole over held holds Unreadable = ⊤
