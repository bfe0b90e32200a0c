use Rattle.wm_front.proofs.shared_front.look_followed.Goals as goal

pub returns-clause-looked : goal.returns-clause-looked
returns-clause-looked g c = (c.in_ok-registry.count, c.in_ok-registry.ensures.looked, c.await_followed.ensures)
