-- What a sync waited for, by what was seen of its system S, in which files M are made.
use Rattle.std.specs.Prelude.{◌⊎◌, ◌≤◌, ℕ, List}

-- some file that was made in this folder was seen to be gone
abbrev pub GoneIn : {S M : Type 0} → (S → List ℕ → M → Type 0) → (S → M → Type 0) → S → List ℕ → Type 0
GoneIn {M} made_in gone system folder = (file : M) × made_in system folder file × gone system file

-- no file could be made in this folder, or one that was made was removed
abbrev pub GaveUpIn : {S M : Type 0} → (S → List ℕ → M → Type 0) → (S → M → Type 0) → (S → List ℕ → Type 0) → S → List ℕ → Type 0
GaveUpIn {M} made_in removed none_in system folder = none_in system folder ⊎ ((file : M) × made_in system folder file × removed system file)

-- this time, or more, has passed
abbrev pub HasPassed : (ℕ → Type 0) → ℕ → Type 0
HasPassed passed time = ∥ ((t : ℕ) × passed t × (time ≤ t)) ∥₁
