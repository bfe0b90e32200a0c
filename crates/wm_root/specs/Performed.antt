-- What is reported of an operation on a root.
use Rattle.std.specs.Prelude.{◌≡◌, ◌⊎◌, Option, Some, None}
use Rattle.wm_disk.specs.declared.refusal.Refusal.{Refusal}
use Rattle.wm_disk.specs.declared.refusal.Refusal.TheVariants.{NotReady}
use Rattle.wm_lines.specs.declared.progress.Progress.{Progress}
use Rattle.wm_share.specs.PublishedLists.{PublishedList, clock_shown, history, outcome}

-- the last operation of the list was accepted, and the view is there
abbrev pub IsProgress : PublishedList → Progress → Type 0
IsProgress list p = (outcome list ≡ None) × (clock_shown (history list) ≡ Some p.clock) × (p.floor ≡ (history list).floor)

-- the last operation of the list was refused so, or the view isn't ready
abbrev pub IsOutcome : PublishedList → Refusal → Type 0
IsOutcome list e = (outcome list ≡ Some e) ⊎ ((e ≡ NotReady) × (clock_shown (history list) ≡ None))
