use Rattle.wm_store.proofs.store.Store.close.Goals.{in-One, in-Two}
use Rattle.wm_store.proofs.store.Store.close.Goals as goal

pub returns-clause-means : goal.returns-clause-means
returns-clause-means g c = elim c.match-self.branch [ in-One w ↦ rw (w.result-is, w.self-inside-is) w.close.ensures.means | in-Two w ↦ rw (w.result-is, w.self-inside-is) w.close-in-Two.ensures.means ]

pub returns-clause-any_moment : goal.returns-clause-any_moment
returns-clause-any_moment g c = elim c.match-self.branch [ in-One w ↦ rw (← c.self.view_is, w.in-One.is, w.self-inside-is) w.close.ensures.any_moment | in-Two w ↦ rw (← c.self.view_is, w.in-Two.is, w.self-inside-is) w.close-in-Two.ensures.any_moment ]
