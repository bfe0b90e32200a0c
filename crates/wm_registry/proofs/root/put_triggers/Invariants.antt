use Rattle.std.proofs.Common.{◌≡◌, ◌++◌, length, take, flat_map}
use Rattle.byteorder.specs.Endian.{big_bytes}
use Rattle.wm_registry.specs.Spelling.{trigger_spelling}
use Rattle.wm_registry.proofs.root.put_triggers.Given as goal

abbrev pub invariant-loop-trigger : goal.invariant-loop-trigger
invariant-loop-trigger l = l.out.items ≡ l.fn.out.items ++ (big_bytes 4 (length l.triggers) ++ flat_map (trigger_spelling l.version) (take l.trigger-index l.triggers))
