use Rattle.std.proofs.Common.{◌≡◌, ◌≤◌, ◌-◌, ◌++◌, length, drop}
use Rattle.std.specs.List.{AllByRecursion}
use Rattle.wm_journal.specs.Records.{gated, with_open_gates, taken}
use Rattle.wm_journal.proofs.read.read_records.Given as goal

abbrev pub invariant-loop-at : goal.invariant-loop-at
invariant-loop-at g l = record {
  end : l.at ≡ taken g.W.Wire.spelling l.records.items;
  within : l.at ≤ length l.bytes;
  fit : AllByRecursion g.W.Wire.fits l.records.items;
  parts : l.bytes ≡ gated g.W.Wire.spelling (with_open_gates l.records.items) ++ drop l.at l.bytes;
}

abbrev pub decreases-loop-at : goal.decreases-loop-at
decreases-loop-at g l = length l.bytes - l.at
