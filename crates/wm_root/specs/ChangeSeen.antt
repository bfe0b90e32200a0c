-- What an operation of a session leaves: what is reported of it, and the list that the session's viewer has then seen.
use Rattle.std.specs.Prelude.{◌≡◌, ◌⊎◌, ℕ, Bool, true, false, MatchBool, Option, Some, Result, Ok, Err}
use Rattle.wm_disk.specs.declared.refusal.Refusal.{Refusal}
use Rattle.wm_disk.specs.declared.refusal.Refusal.TheVariants.{NoMemory, Exhausted}
use Rattle.wm_view.specs.declared.op.Op.{Op}
use Rattle.wm_lines.specs.declared.progress.Progress.{Progress}
use Rattle.wm_share.specs.PublishedLists.{PublishedList, ViewerState, Begins, EndsWith}
use Rattle.wm_root.specs.Changes.{op_at}
use Rattle.wm_root.specs.declared.change.Change.{Change}
use Rattle.wm_root.specs.Performed.{IsOutcome, IsProgress}

-- the list ends with the operation: it was accepted, and the view is there; or it was refused so
abbrev pub IsEndOf : Op → PublishedList → Result Progress Refusal → Type 0
IsEndOf op list (Ok p) = EndsWith list.operations op × IsProgress list p
IsEndOf op list (Err e) = EndsWith list.operations op × IsOutcome list e

-- Memory ran out, or as many operations as a counter counts were handed in. What is reported is then not of a published list.
abbrev pub IsUnpublished : Result Progress Refusal → Type 0
IsUnpublished result = (result ≡ Err NoMemory) ⊎ (result ≡ Err Exhausted)

-- It was published, and what is reported is of the list that was published last; or it wasn't.
abbrev pub IsEnded : Op → Option PublishedList → (is_published : Bool) → Result Progress Refusal → Type 0
IsEnded op last true result = (list : PublishedList) × (last ≡ Some list) × IsEndOf op list result
IsEnded op last false result = IsUnpublished result

-- what is reported is of a published list that ends with the change, at a second that may be read, and the viewer has then seen that list
abbrev pub IsPublished : (ℕ → Type 0) → Change → Result Progress Refusal → ViewerState → Type 0
IsPublished MayRead change result new = (list : PublishedList) × (moment : ℕ) × MayRead moment × Begins list new.list × IsEndOf (op_at moment change) list result

-- The change was published so, and is reported; or it wasn't published. The viewer has forgotten nothing.
abbrev pub IsChangeSeen : ViewerState → (ℕ → Type 0) → Change → (is_published : Bool) → Result Progress Refusal → ViewerState → Type 0
IsChangeSeen old MayRead change is_published result new = Begins old.list new.list × MatchBool is_published (IsPublished MayRead change result new) (IsUnpublished result)
