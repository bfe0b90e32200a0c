use Rattle.wm_groupcommit.specs.Seats.{IsFlusherOf}
use Rattle.wm_workers.proofs.desk.DeskServerDesk.flush.Given as goal

abbrev pub invariant-loop : goal.invariant-loop
invariant-loop g l = IsFlusherOf l.self l.flusher
