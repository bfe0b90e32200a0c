-- What a content means while its file is retired.
use Rattle.std.specs.Prelude.{◌⊎◌, ℕ, List}
use Rattle.wm_journal.specs.Areas.{SameOutside}
use Rattle.wm_checkpoint.specs.Layout.{retired_place}
use Rattle.wm_checkpoint.specs.Machines.{Meaning}
use Rattle.wm_checkpoint.specs.Meanings.{IsRetired, MeansState}
use Rattle.wm_checkpoint.specs.Numbers.{IsNumberedTo}

-- No byte differs from before but the retired gate: so the content means the state, or its file is retired, and no slot stands open under a
-- greater number than one did before.
pub record IsMeantOrRetired {S C : Type 0} (m : Meaning S C) (state : S) (before content : List ℕ) : Type 0 where
  pub same : SameOutside retired_place 1 before content
  pub means : MeansState m state content ⊎ IsRetired m.sizes content
  pub numbered : (n : ℕ) → IsNumberedTo m.sizes n before → IsNumberedTo m.sizes n content
