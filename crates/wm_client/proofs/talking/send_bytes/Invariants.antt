use Rattle.std.proofs.Common.{◌≤◌, length, take}
use Rattle.std.specs.Io.KnownBytes.{Appends}
use Rattle.wm_client.proofs.talking.send_bytes.Given as goal

abbrev pub invariant-loop : goal.invariant-loop
invariant-loop g l = Appends (g.S.Write.contents l.fn.sender) (g.S.Write.contents l.sender) (take l.sent l.bytes) × (l.sent ≤ length l.bytes)
