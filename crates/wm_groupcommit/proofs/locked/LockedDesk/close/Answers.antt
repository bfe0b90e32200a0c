use Rattle.wm_groupcommit.proofs.locked.LockedDesk.close.Goals as goal

pub invariant_of-self : goal.invariant_of-self
invariant_of-self g c = rw (c.close.ensures.list.0, c.close.ensures.list.1) c.self.invariant
