use denote.Param.Send.{sendable}
use Rattle.file_tests.proofs.Crossing.{memory_desk}
use Rattle.file_tests.proofs.desk.receipts.stands_after_a_hundred.Goals as goal

pub join-total-requires-send-F : goal.join-total-requires-send-F
join-total-requires-send-F g c κs within = search (sendable, memory_desk) depth 20
