use Rattle.std.proofs.Common.{◌≡◌, drop, map}
use Rattle.std.specs.Prelude.{string_bytes}
use Rattle.wm_log.specs.LogLimits.{has_text}
use Rattle.wm_log.proofs.limiter.has_text.Given as goal

abbrev pub invariant-loop-one : goal.invariant-loop-one
invariant-loop-one l = has_text l.text (map string_bytes (drop l.one-index l.texts)) ≡ has_text l.text (map string_bytes l.texts)
