use denote.Param.Send.{sendable}
use Rattle.file_tests.proofs.Crossing.{memory_desk}
use Rattle.file_tests.proofs.desk.seats.ask_at_once.Goals as goal

pub join-requires-send-F : goal.join-requires-send-F
join-requires-send-F g c κs within = search (sendable, memory_desk, c.type_bounds) depth 20 fits 5000
