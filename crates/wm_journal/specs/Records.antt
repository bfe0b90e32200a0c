-- Records behind gates, and the journal that they make. A gate is one byte: open at `A5`, closed at any other value.
use Rattle.std.specs.Prelude.{◌≡◌, ◌≢◌, ℕ, ◌+◌, List, [], ◌∷◌, ◌++◌, length, map}
use Rattle.std.specs.List.{flat_map, AllByRecursion}
use Rattle.wm_wire.specs.declared.wire.Wire.{Ghosts}

-- an open gate
abbrev pub open_gate : ℕ
open_gate = 165

-- a closed gate, as it is written
abbrev pub closed_gate : ℕ
closed_gate = 0

-- each record behind its gate
abbrev pub gated : {V : Type 0} → (V → List ℕ) → List (ℕ × V) → List ℕ
gated spelling records = flat_map (λ r. r.0 ∷ spelling r.1) records

-- an open gate for each record
abbrev pub with_open_gates : {V : Type 0} → List V → List (ℕ × V)
with_open_gates records = map (λ v. (open_gate, v)) records

-- The records before the first closed gate: each behind an open gate, and behind them a closed one and anything.
pub record HoldsRecords {V : Type 0} (wire : Ghosts V) (records : List V) (bytes : List ℕ) : Type 0 where
  pub fit : AllByRecursion wire.fits records
  pub gate : ℕ
  pub behind : List ℕ
  pub closed : gate ≢ open_gate
  pub parts : bytes ≡ gated wire.spelling (with_open_gates records) ++ gate ∷ behind

-- The same, with the added records between them and the closed gate, each behind any gate.
pub record Stages {V : Type 0} (wire : Ghosts V) (records added : List V) (bytes : List ℕ) : Type 0 where
  pub fit : AllByRecursion wire.fits (records ++ added)
  pub staged : List (ℕ × V)
  pub are_added : map (λ r. r.1) staged ≡ added
  pub gate : ℕ
  pub behind : List ℕ
  pub closed : gate ≢ open_gate
  pub parts : bytes ≡ gated wire.spelling (with_open_gates records ++ staged) ++ gate ∷ behind

-- how many bytes the records take, each with its gate
abbrev pub taken : {V : Type 0} → (V → List ℕ) → List V → ℕ
taken spelling [] = 0
taken spelling (v ∷ vs) = 1 + length (spelling v) + taken spelling vs

-- the places of the gates of records that lie from a place on
abbrev pub gate_places : {V : Type 0} → (V → List ℕ) → ℕ → List V → List ℕ
gate_places spelling at [] = []
gate_places spelling at (v ∷ vs) = at ∷ gate_places spelling (at + 1 + length (spelling v)) vs

-- a group as it is written behind its first gate: a closed gate behind each record
abbrev pub group : {V : Type 0} → (V → List ℕ) → List V → List ℕ
group spelling records = flat_map (λ v. spelling v ++ closed_gate ∷ []) records
