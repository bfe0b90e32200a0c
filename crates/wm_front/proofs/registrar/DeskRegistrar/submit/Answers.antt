use Rattle.wm_front.proofs.Desks.{submit_goes}
use Rattle.wm_front.proofs.registrar.DeskRegistrar.submit.Goals as goal

pub returns-in-Ok-clause-continues : goal.returns-in-Ok-clause-continues
returns-in-Ok-clause-continues g c = submit_goes c.args.seat.now c.submit.new.seat c.args.command c.submit.result c.submit.ensures.continues c.submit.ensures.answered c.submit.ensures.turned

pub returns-in-Err-clause-continues : goal.returns-in-Err-clause-continues
returns-in-Err-clause-continues g c = submit_goes c.args.seat.now c.submit.new.seat c.args.command c.submit.result c.submit.ensures.continues c.submit.ensures.answered c.submit.ensures.turned
