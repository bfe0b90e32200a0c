use denote.Param.Send.{sendable}
use Rattle.file_tests.proofs.Crossing.{memory_desk}
use Rattle.file_tests.proofs.desk.sweeps.cut.Goals as goal

pub join-count-requires-send-F : goal.join-count-requires-send-F
join-count-requires-send-F g c κs within = search (sendable, memory_desk) depth 20
