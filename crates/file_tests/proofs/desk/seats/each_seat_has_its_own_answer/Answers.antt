use denote.Param.Send.{sendable}
use Rattle.file_tests.proofs.Crossing.{memory_desk}
use Rattle.file_tests.proofs.desk.seats.each_seat_has_its_own_answer.Goals as goal

pub join-total-requires-send-F : goal.join-total-requires-send-F
join-total-requires-send-F g c κs within = search (sendable, memory_desk) depth 20
