use Rattle.wm_store.proofs.store.Store.commit_batch.Goals.{in-One, in-Two}
use Rattle.wm_store.proofs.store.Store.commit_batch.Goals as goal

pub returns-clause-numbered : goal.returns-clause-numbered
returns-clause-numbered g c = elim c.match-self.branch [ in-One w ↦ rw (← c.self.view_is, w.in-One.is, w.self-inside-is) w.commit_batch.ensures.numbered | in-Two w ↦ rw (← c.self.view_is, w.in-Two.is, w.self-inside-is) w.commit_batch-in-Two.ensures.numbered ]
