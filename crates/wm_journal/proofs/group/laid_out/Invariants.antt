use Rattle.std.proofs.Common.{◌≡◌, take}
use Rattle.std.specs.List.{AllByRecursion}
use Rattle.wm_journal.specs.Records.{gate_places, group}
use Rattle.wm_journal.proofs.group.laid_out.Given as goal

abbrev pub invariant-loop-record : goal.invariant-loop-record
invariant-loop-record g l = record {
  gates : l.gates.items ≡ gate_places g.W.Wire.spelling l.place (take l.record-index l.records);
  bytes : l.bytes.items ≡ group g.W.Wire.spelling (take l.record-index l.records);
  fit : AllByRecursion g.W.Wire.fits (take l.record-index l.records);
}
