use Rattle.wm_groupcommit.specs.Seats.{IsSeatOf}
use Rattle.file_tests.proofs.desk.receipts.define_all.Given as goal

abbrev pub invariant-loop-i : goal.invariant-loop-i
invariant-loop-i g l = IsSeatOf l.desk l.seat
