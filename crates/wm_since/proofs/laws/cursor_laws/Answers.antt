use Rattle.wm_since.proofs.Moves.{moved, others}
use Rattle.wm_since.proofs.laws.cursor_laws.Goals as goal

pub returns-clause-moved : goal.returns-clause-moved
returns-clause-moved c = moved

pub returns-clause-others : goal.returns-clause-others
returns-clause-others c = others
