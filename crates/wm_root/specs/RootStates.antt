-- What a root's lock protects beside the reading that is under way, and what an operation does to it.
use Rattle.std.specs.Prelude.{◌≡◌, ◌≢◌, ◌⊎◌, ◌++◌, ◌∷◌, [], ℕ, Bool, true, false, cond, is_none, List, Option, Some, None, Result, Err, MatchResult}
use Rattle.wm_disk.specs.declared.refusal.Refusal.{Refusal}
use Rattle.wm_disk.specs.declared.refusal.Refusal.TheVariants.{NoMemory}
use Rattle.wm_view.specs.declared.op.Op.{Op}
use Rattle.wm_lines.specs.declared.progress.Progress.{Progress}
use Rattle.wm_share.specs.Operations.{Operations, MayRefuse}
use Rattle.wm_share.specs.PublishedLists.{PublishedList, clock_shown, history, outcome, with_operations}
use Rattle.wm_root.specs.AgeOuts.{due_age_out, first_aged, moment_of}
use Rattle.wm_root.specs.Performed.{IsOutcome, IsProgress}
use Rattle.wm_root.specs.Readings.{is_begun_before, tick_shown}
use Rattle.wm_root.specs.declared.backlog.Backlog.{Backlog}
use Rattle.wm_root.specs.declared.retention.Retention.{Retention}

-- what is published of the view and what waits, and what operations leave for later ones
pub record RootState : Type 0 where
  pub operations : Operations
  pub backlog : Backlog

abbrev pub root_state : Operations → Backlog → RootState
root_state operations backlog = record { operations = operations; backlog = backlog }

-- the list with all that waited, and then these operations
abbrev pub list_with : List Op → RootState → PublishedList
list_with ops root = with_operations root.operations.published (root.operations.pending ++ ops)

-- ---- what is published

-- the list is published, nothing waits, and the interval of age-outs is counted from there
abbrev pub with_list : PublishedList → Option ℕ → RootState → RootState
with_list list aged root = record {
  operations = record { published = list; pending = [] };
  backlog = record root.backlog { has_pending = false; aged_at = aged };
}

-- the list with all that waited
abbrev pub list_pending : RootState → PublishedList
list_pending root = with_operations root.operations.published root.operations.pending

-- what waits because memory ran out for it, and the tick after it
abbrev pub all_published : RootState → RootState
all_published root = record {
  operations = record { published = list_pending root; pending = [] };
  backlog = record root.backlog { has_pending = false; published_at = tick_shown (clock_shown (history (list_pending root))) };
}

-- that, if anything waits so
abbrev pub with_backlog : RootState → RootState
with_backlog root = cond root.backlog.has_pending (all_published root) root

-- the age-out, if one is due. One that the view refuses isn't done: it stays due
abbrev pub with_due : List Op → ℕ → RootState → RootState
with_due [] moment root = root
with_due (op ∷ ops) moment root = with_list (list_with (op ∷ ops) root) (cond (is_none (outcome (list_with (op ∷ ops) root))) (Some moment) root.backlog.aged_at) root

abbrev pub due_before : Retention → ℕ → RootState → List Op
due_before retention moment root = due_age_out root.backlog.aged_at retention moment

abbrev pub with_age_out : Retention → ℕ → RootState → RootState
with_age_out retention moment root = with_due (due_before retention moment root) moment root

-- the operation
abbrev pub with_operation : Op → RootState → RootState
with_operation op root = with_list (list_with (op ∷ []) root) (first_aged root.backlog.aged_at (moment_of op) (clock_shown (history (list_with (op ∷ []) root)))) root

-- what is pending, then the age-out that is due, then the operation
abbrev pub root_after : Retention → Op → RootState → RootState
root_after retention op root = with_operation op (with_age_out retention (moment_of op) (with_backlog root))

-- ---- what isn't

-- these operations aren't published: they wait, or weren't even handed in, and what waits is pending
abbrev pub IsHeldBack : List Op → RootState → RootState → Type 0
IsHeldBack ops before after =
    (after.operations.published ≡ before.operations.published)
    × ((after.operations.pending ≡ before.operations.pending) ⊎ (after.operations.pending ≡ before.operations.pending ++ ops))
    × (after.backlog ≡ record before.backlog { has_pending = true })

-- the operation is a listing whose reading began before what was pending is published
abbrev pub is_overtaken : Op → RootState → Bool
is_overtaken op root = is_begun_before (with_backlog root).backlog.published_at op

-- Why an operation isn't published: memory ran out for what is pending; it is overtaken; or memory ran out for the age-out that is due or for the operation, or as
-- many operations as a counter counts were handed in.
abbrev pub IsUnperformed : Retention → Op → Refusal → RootState → RootState → Refusal → Type 0
IsUnperformed retention op overtaken before after e =
    ((e ≡ NoMemory) × (before.backlog.has_pending ≡ true) × (after ≡ before))
    ⊎ ((e ≡ overtaken) × (is_overtaken op before ≡ true) × (after ≡ with_backlog before))
    ⊎ (MayRefuse after.operations e × (due_before retention (moment_of op) (with_backlog before) ≢ []) × IsHeldBack (due_before retention (moment_of op) (with_backlog before)) (with_backlog before) after)
    ⊎ (MayRefuse after.operations e × (is_overtaken op before ≡ false) × IsHeldBack (op ∷ []) (with_age_out retention (moment_of op) (with_backlog before)) after)

-- ---- how an operation ends

-- the operation is published, and its list is what was published last
abbrev pub IsPerformed : Retention → Op → RootState → RootState → Option PublishedList → Type 0
IsPerformed retention op before after last = (after ≡ root_after retention op before) × (is_overtaken op before ≡ false) × (last ≡ Some after.operations.published)

-- It is published, and reported as its list gives; or it isn't.
abbrev pub IsOperated : Retention → Op → Refusal → RootState → RootState → Option PublishedList → (is_published : Bool) → Result Progress Refusal → Type 0
IsOperated retention op overtaken before after last true ended = IsPerformed retention op before after last × MatchResult ended (IsProgress after.operations.published) (IsOutcome after.operations.published)
IsOperated retention op overtaken before after last false ended = (e : Refusal) × (ended ≡ Err e) × IsUnperformed retention op overtaken before after e

-- what was published last, if anything was
abbrev pub IsLast : Option PublishedList → PublishedList → PublishedList → Type 0
IsLast None before after = after ≡ before
IsLast (Some list) before after = list ≡ after
