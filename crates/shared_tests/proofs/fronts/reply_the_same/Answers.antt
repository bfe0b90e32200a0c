use denote.Param.Send.{sendable}
use Rattle.std.proofs.sync.atomic.AtomicU64.TheSendSync as CountSent
use Rattle.shared_tests.proofs.Crossing.{memory_desk}
use Rattle.shared_tests.proofs.fronts.reply_the_same.Goals as goal

pub join-replies-requires-send-F : goal.join-replies-requires-send-F
join-replies-requires-send-F g c κs within = search (sendable, memory_desk, CountSent.the_sync) depth 20
