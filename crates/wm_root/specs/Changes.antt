-- The operation that a change is at a moment.
use Rattle.std.specs.Prelude.{ℕ}
use Rattle.wm_view.specs.declared.op.Op.{Op}
use Rattle.wm_view.specs.declared.op.Op.TheVariants as op
use Rattle.wm_root.specs.declared.change.Change.{Change}
use Rattle.wm_root.specs.declared.change.Change.TheVariants.{Observe, Recrawl, AgeOut}

abbrev pub op_at : ℕ → Change → Op
op_at moment (Observe pairs) = op.Observe moment pairs
op_at moment (Recrawl begun_at listing) = op.Recrawl moment begun_at listing
op_at moment (AgeOut age) = op.AgeOut moment age
