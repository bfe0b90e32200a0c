-- For private clauses: a content while the gates of a group are opened.
use Rattle.std.specs.Prelude.{◌≡◌, ℕ, List, take}
use Rattle.wm_wire.specs.declared.wire.Wire.{Ghosts}
use Rattle.wm_journal.specs.Records.{Stages, with_open_gates, taken, gate_places}
use Rattle.wm_journal.specs.Areas.{area, SameOutside}

-- the places of the gates of a group behind these records
abbrev pub AreGatesOf : {V : Type 0} → Ghosts V → List V → List V → List ℕ → Type 0
AreGatesOf wire held added gates = gates ≡ gate_places wire.spelling (taken wire.spelling held) added

module _ {V : Type 0} (wire : Ghosts V) (offset len : ℕ) (before : List ℕ) (held added : List V) where
  -- the records stand in the area, and the group behind any gates
  pub record IsUnderGates (content : List ℕ) : Type 0 where
    pub outside : SameOutside offset len before content
    pub stages : Stages wire held added (area offset len content)

  -- so many gates of the group, the first, are open
  pub record IsOpenTo (count : ℕ) (content : List ℕ) : Type 0 where
    pub under : IsUnderGates content
    pub open_to : take count under.stages.staged ≡ with_open_gates (take count added)
