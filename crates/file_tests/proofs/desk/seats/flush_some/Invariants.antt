use Rattle.wm_groupcommit.specs.Seats.{IsFlusherOf}
use Rattle.file_tests.proofs.desk.seats.flush_some.Given as goal

abbrev pub invariant-loop : goal.invariant-loop
invariant-loop g l = ((goal.iterator-loop g).can_next l.iterator' × (goal.iterator-loop g).is_finite l.iterator') × IsFlusherOf l.desk l.flusher
