use Rattle.std.proofs.Common.{◌≡◌, drop}
use Rattle.wm_feed.specs.Watched.{with_digits}
use Rattle.wm_feed.proofs.watched.hex_number.Given as goal

abbrev pub invariant-loop-byte : goal.invariant-loop-byte
invariant-loop-byte l = with_digits l.number (drop l.byte-index l.digits) ≡ with_digits 0 l.digits
