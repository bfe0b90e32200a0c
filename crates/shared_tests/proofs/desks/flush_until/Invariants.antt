use Rattle.wm_groupcommit.specs.Seats.{IsFlusherOf}
use Rattle.shared_tests.proofs.desks.flush_until.Given as goal

abbrev pub invariant-loop : goal.invariant-loop
invariant-loop g l = IsFlusherOf l.desk l.flusher
