use Rattle.wm_client.proofs.Passing.{passed_now}
use Rattle.wm_client.proofs.timer.Timer.latest.Goals as goal

pub returns-then-self-elapsed-clause-passed : goal.returns-then-self-elapsed-clause-passed
returns-then-self-elapsed-clause-passed g c = passed_now _ _ c.elapsed-elapsed.ensures
