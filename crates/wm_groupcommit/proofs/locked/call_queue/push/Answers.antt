use Rattle.wm_groupcommit.proofs.Merging.{puts}
use Rattle.wm_groupcommit.proofs.locked.call_queue.push.Goals as goal

pub push_as-requires-clause-rule : goal.push_as-requires-clause-rule
push_as-requires-clause-rule g c = λ n. puts n _ _ _
