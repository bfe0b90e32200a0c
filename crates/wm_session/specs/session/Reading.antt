-- Reading one line off a reader. For private clauses.
use Rattle.std.specs.Prelude.{◌≡◌, ◌≢◌, ℕ, List, [], ◌++◌, take, Bool, Option, Some}
use Rattle.std.specs.Io.BufRead.{take_through, drop_through}
use Rattle.wm_session.specs.session.Inputs.{KeepsPart, max_kept}
use Rattle.wm_session.specs.declared.session.input.Part.{Part}
use Rattle.wm_session.specs.declared.session.input.Part.TheVariants as part
use Rattle.wm_session.specs.declared.session.input.LineRead.{LineRead}
use Rattle.wm_session.specs.declared.session.input.LineRead.TheVariants as read

-- a prefix of what is left was taken, up to a newline or not
abbrev pub TakesPrefix : List ℕ → Part → List ℕ → List ℕ → Type 0
TakesPrefix rest part.Open prefix left = (take_through 10 rest ≡ prefix ++ take_through 10 left) × (drop_through 10 rest ≡ drop_through 10 left)
TakesPrefix rest part.Closed prefix left = (prefix ≢ []) × (take_through 10 rest ≡ prefix) × (drop_through 10 rest ≡ left)
TakesPrefix rest part.End prefix left = (prefix ≡ []) × (rest ≡ []) × (left ≡ [])

-- a prefix of what is left was taken, and kept in a line that may be lost
pub record TakesPart (rest : List ℕ) (part : Part) (old new : List ℕ × Bool) (left : Option (List ℕ)) : Type 0 where
  pub prefix : List ℕ
  pub behind : List ℕ
  pub left_is : left ≡ Some behind
  pub takes : TakesPrefix rest part prefix behind
  pub kept : KeepsPart old.0 prefix old.1 new.0 new.1

-- the next line was taken off what is left, and as much of it kept as may be; or nothing was left
abbrev pub ReadsLine : List ℕ → LineRead → List ℕ → Option (List ℕ) → Type 0
ReadsLine rest read.Kept kept left = (rest ≢ []) × (kept ≡ take max_kept (take_through 10 rest)) × (left ≡ Some (drop_through 10 rest))
ReadsLine rest read.Lost kept left = (rest ≢ []) × (left ≡ Some (drop_through 10 rest))
ReadsLine rest read.End kept left = rest ≡ []

-- what was read stands for the whole line
abbrev pub IsReadOf : LineRead → List ℕ → List ℕ → Type 0
IsReadOf read.Kept kept whole = kept ≡ take max_kept whole
IsReadOf read.Lost kept whole = Unit {0}
IsReadOf read.End kept whole = ⊥
