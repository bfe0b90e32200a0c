-- The rule of the calls' queue.
use Rattle.std.specs.Prelude.{◌≡◌, ◌≤◌, ℕ, nat_eq, cond, List, [], ◌∷◌, ◌++◌, length}
use mathlib.Core.Option.{some}
use lib.ListN.{get_elem?}
use Rattle.wm_groupcommit.specs.declared.queued.Call.{Call}
use Rattle.wm_groupcommit.specs.declared.locked.call_rule.CallView.{CallView}

abbrev pub call_view : List Call → List Call → CallView
call_view pushed popped = record { pushed = pushed; popped = popped }

-- those of the calls that are of this place, where `owners` names the place of each
abbrev pub owned : ℕ → List ℕ → List Call → List Call
owned place [] xs = []
owned place (o ∷ os) [] = []
owned place (o ∷ os) (x ∷ xs) = cond (nat_eq o place) (x ∷ owned place os xs) (owned place os xs)

-- The list is a merge of what these places have: each of its calls is of one place, and those of a place are what it has, in its order
abbrev pub IsMerge : (CallView → List Call) → List Call → List CallView → List ℕ → Type 0
IsMerge part all views owners =
    (length owners ≡ length all)
    × ((place : ℕ) (v : CallView) → get_elem? views place ≡ some v → owned place owners all ≡ part v)
    × ((place : ℕ) → length views ≤ place → owned place owners all ≡ [])

-- What was taken, and then what is queued, is a merge of what the places have put. What was taken is a merge of what they have taken
abbrev pub Merged : List Call → List CallView → Type 0
Merged items views =
    (gone : List Call) × (putters : List ℕ) × (takers : List ℕ)
    × IsMerge (λ v. v.pushed) (gone ++ items) views putters × IsMerge (λ v. v.popped) gone views takers

-- these calls may be queued while a place has put and taken so many
abbrev pub MayBeQueued : CallView → List Call → Type 0
MayBeQueued v items = (views : List CallView) × (place : ℕ) × Merged items views × (get_elem? views place ≡ some v)

-- at one moment no call was queued: all that the places had put was taken
abbrev pub WasEmpty : CallView → Type 0
WasEmpty v = MayBeQueued v []
