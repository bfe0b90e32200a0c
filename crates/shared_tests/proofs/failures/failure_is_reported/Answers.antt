use denote.Param.Send.{sendable}
use Rattle.std.proofs.sync.atomic.AtomicU64.TheSendSync as CountSent
use Rattle.shared_tests.proofs.Crossing.{memory_desk}
use Rattle.shared_tests.proofs.failures.failure_is_reported.Goals as goal

pub join-requires-send-F : goal.join-requires-send-F
join-requires-send-F g c κs within = search (sendable, memory_desk, CountSent.the_sync) depth 20
