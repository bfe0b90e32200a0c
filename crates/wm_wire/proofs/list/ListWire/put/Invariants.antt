use Rattle.std.proofs.Common.{◌≡◌, ◌++◌, length, take, flat_map}
use Rattle.byteorder.specs.Endian.{big_bytes}
use Rattle.wm_wire.proofs.list.ListWire.put.Given as goal

abbrev pub invariant-loop-value : goal.invariant-loop-value
invariant-loop-value g l = l.out.items ≡ l.fn.out.items ++ (big_bytes 4 (length l.value-items) ++ flat_map g.W.Wire.spelling (take l.value-index l.value-items))
