use denote.Param.Send.{sendable}
use Rattle.file_tests.proofs.Crossing.{memory_desk}
use Rattle.file_tests.proofs.desk.seats.submit_commits_by_itself.Goals as goal

pub join-answered-requires-send-F : goal.join-answered-requires-send-F
join-answered-requires-send-F g c κs within = search (sendable, memory_desk) depth 20
