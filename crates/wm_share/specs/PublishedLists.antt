-- The list of the operations that were published on one root so far, and what it makes.
use Rattle.std.specs.Prelude.{◌≡◌, ◌<◌, Bool, true, List, [], ◌∷◌, ◌++◌, length, cond, Option, Some, None}
use mathlib.Core.List.{IsPrefix}
use Rattle.wm_disk.specs.declared.refusal.Refusal.{Refusal}
use Rattle.wm_clock.specs.declared.clock_id.ClockId.{ClockId}
use Rattle.wm_view.specs.declared.op.Op.{Op}
use Rattle.wm_view.specs.Histories.{History, new_history, history_of, after_operation, refusal, is_ready}
use Rattle.wm_since.specs.Answers.{clock_of}
use Rattle.wm_share.specs.declared.share_id.ShareId.{ShareId}

-- the operations that were published on the share of a root, the oldest first
pub record PublishedList : Type 0 where
  pub share : ShareId
  pub operations : List Op

abbrev pub empty_list : ShareId → PublishedList
empty_list share = record { share = share; operations = [] }

abbrev pub with_operations : PublishedList → List Op → PublishedList
with_operations list ops = record list { operations = list.operations ++ ops }

-- the first list is a beginning of the second
abbrev pub Begins : PublishedList → PublishedList → Type 0
Begins xs ys = (xs.share ≡ ys.share) × IsPrefix xs.operations ys.operations

-- the second list goes on where the first ends
abbrev pub IsLonger : PublishedList → PublishedList → Type 0
IsLonger xs ys = Begins xs ys × (length xs.operations < length ys.operations)

-- the list ends with the operation
abbrev pub EndsWith : List Op → Op → Type 0
EndsWith ops op = (before : List Op) × (ops ≡ before ++ op ∷ [])

-- ---- what a viewer has of it

pub record ViewerState : Type 0 where
  pub list : PublishedList  -- the longest one that it has seen or learnt
  pub is_disconnected : Bool  -- its last question found no published list that begins with that one: the keeper is gone

abbrev pub disconnected : ViewerState → ViewerState
disconnected v = record v { is_disconnected = true }

-- ---- what the list makes

abbrev pub history : PublishedList → History
history list = history_of list.share.incarnation list.share.root list.operations

-- how the last operation is refused, where it is; of none, what was told before
abbrev pub last_refusal : History → Option Refusal → List Op → Option Refusal
last_refusal h last [] = last
last_refusal h last (op ∷ ops) = last_refusal (after_operation h op) (refusal h op) ops

-- how the last operation of the list is refused, where it is. Then it changes nothing
abbrev pub outcome : PublishedList → Option Refusal
outcome list = last_refusal (new_history list.share.incarnation list.share.root) None list.operations

-- the clock, and none before the view is ready
abbrev pub clock_shown : History → Option ClockId
clock_shown h = cond (is_ready h) (Some (clock_of h)) None
