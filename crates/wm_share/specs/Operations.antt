-- What a keeper has published, and what it has not yet.
use Rattle.std.specs.Prelude.{◌≡◌, ◌⊎◌, ◌≤◌, List, [], ◌∷◌, ◌++◌, length, Option, Some, None}
use Rattle.wm_disk.specs.Counters.{max_counter}
use Rattle.wm_disk.specs.declared.refusal.Refusal.{Refusal}
use Rattle.wm_disk.specs.declared.refusal.Refusal.TheVariants.{Exhausted, NoMemory}
use Rattle.wm_view.specs.declared.op.Op.{Op}
use Rattle.wm_share.specs.PublishedLists.{PublishedList}

-- the list that viewers see, and the operations that they don't see yet
pub record Operations : Type 0 where
  pub published : PublishedList
  pub pending : List Op

abbrev pub held_list : Option Op → List Op
held_list None = []
held_list (Some op) = op ∷ []

-- all that was handed in: what is published, and what waits behind it
abbrev pub handed_in : Operations → List Op
handed_in operations = operations.published.operations ++ operations.pending

-- A keeper may refuse so: memory ran out, or as many operations as a counter counts were handed in.
abbrev pub MayRefuse : Operations → Refusal → Type 0
MayRefuse operations e = (e ≡ NoMemory) ⊎ ((e ≡ Exhausted) × (max_counter ≤ length (handed_in operations)))
