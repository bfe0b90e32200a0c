use Rattle.std.proofs.Common.{◌≡◌, take}
use Rattle.wm_feed.specs.Words.{with_bytes}
use Rattle.wm_feed.proofs.words.Words.push.Given as goal

abbrev pub invariant-loop-byte : goal.invariant-loop-byte
invariant-loop-byte l = l.self ≡ with_bytes (take l.byte-index l.bytes) l.initial.self
