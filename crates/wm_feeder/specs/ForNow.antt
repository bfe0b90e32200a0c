-- Which refusals pass by themselves.
use Rattle.std.specs.Prelude.{Bool, true, false}
use Rattle.wm_disk.specs.declared.refusal.Refusal.{Refusal}
use Rattle.wm_disk.specs.declared.refusal.Refusal.TheVariants.{NotReady, BadClock, DeviceFailed, NoMemory}

-- The same request may be accepted later: the root wasn't crawled yet, a crawl was overtaken, the device failed, or memory ran out.
abbrev pub is_for_now : Refusal → Bool
is_for_now NotReady = true
is_for_now BadClock = true
is_for_now DeviceFailed = true
is_for_now NoMemory = true
is_for_now other = false
