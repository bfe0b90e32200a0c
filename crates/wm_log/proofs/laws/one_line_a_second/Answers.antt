use Rattle.wm_log.proofs.Passing.{one_line}
use Rattle.wm_log.proofs.laws.one_line_a_second.Goals as goal

pub returns : goal.returns
returns c = one_line
