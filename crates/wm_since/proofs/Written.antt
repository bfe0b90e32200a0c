-- The text that a writer gives.
use Rattle.std.proofs.Common.{◌≡◌}
use Rattle.json.specs.Print.{print}
use Rattle.serde_json.proofs.Texts.{print-outline}
use Rattle.serde_json.specs.Data.{Data}
use Rattle.serde_json.specs.Written.{compact_text}
use Rattle.wm_since.specs.Texts.{tokens_of}

-- the tokens of a value are written as its text
pub printed : (d : Data) → print (tokens_of d) ≡ compact_text d
printed d = print-outline d
