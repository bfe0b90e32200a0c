use Rattle.wm_front.proofs.Desks.{looked_at}
use Rattle.wm_front.proofs.registrar.DeskRegistrar.look.Goals as goal

pub returns-in-Ok-clause-looked : goal.returns-in-Ok-clause-looked
returns-in-Ok-clause-looked g c = looked_at c.args.seat.now c.look.new.seat c.in-Ok.looked.0 c.in-Ok.looked.1 c.in-Ok.ensures.looked
