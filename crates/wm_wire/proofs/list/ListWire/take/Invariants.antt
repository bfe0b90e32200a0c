use Rattle.std.proofs.Common.{◌≡◌, length}
use Rattle.wm_wire.specs.Spelling.{IsList}
use Rattle.wm_wire.proofs.Lists.{HasRead}
use Rattle.wm_wire.proofs.list.ListWire.take.Given as goal

abbrev pub invariant-loop : goal.invariant-loop
invariant-loop g l = record {
  count : length l.list ≡ l.counter;
  fits : IsList g.row.MAX g.W.Wire.fits g.W.Wire.spelling l.list;
  read : HasRead g.W.Wire.spelling l.bytes l.count l.list l.at;
}
