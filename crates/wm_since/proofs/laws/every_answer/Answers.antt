use Rattle.wm_since.proofs.Agree.{agree}
use Rattle.wm_since.proofs.laws.every_answer.Goals as goal

pub returns : goal.returns
returns c = λ passes h q made. agree passes h q (c.every_operation.ensures.floor h made)
