use Rattle.wm_groupcommit.proofs.locked.call_queue.is_empty.Goals as goal

pub is_empty_as-requires-clause-rule : goal.is_empty_as-requires-clause-rule
is_empty_as-requires-clause-rule c = λ items views h at. (views, _, h, at)
