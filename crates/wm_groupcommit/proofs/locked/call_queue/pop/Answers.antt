use Rattle.wm_groupcommit.proofs.Merging.{takes, admits}
use Rattle.wm_groupcommit.proofs.locked.call_queue.pop.Goals as goal

pub try_pop_batch-requires-clause-rule : goal.try_pop_batch-requires-clause-rule
try_pop_batch-requires-clause-rule g c = ((λ n some few. takes n _ _), (λ items views h at. (views, _, h, at)), admits)
