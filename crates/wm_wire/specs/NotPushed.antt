-- Why a list took no value.
use Rattle.std.specs.Prelude.{◌≤◌, ◌^◌, ℕ, List, [], ◌∷◌, ◌++◌, length, ⊤}
use Rattle.wm_wire.specs.Spelling.{list_spelling}
use Rattle.wm_wire.specs.declared.list.NotPushed.{NotPushed}
use Rattle.wm_wire.specs.declared.list.NotPushed.TheVariants.{Full, TooLong, NoMemory}

-- max items are there; or one more would make the spelling too long; or memory is short
abbrev pub IsReason : {V : Type 0} → ℕ → (V → List ℕ) → List V → V → NotPushed → Type 0
IsReason max spelling items value Full = max ≤ length items
IsReason max spelling items value TooLong = 2 ^ 32 ≤ length (list_spelling spelling (items ++ value ∷ []))
IsReason max spelling items value NoMemory = ⊤
