use Rattle.std.proofs.Common.{◌≡◌, ◌+◌, take}
use Rattle.wm_journal.specs.Records.{taken}
use Rattle.wm_journal.specs.Regions.{room_of}
use Rattle.file_tests.proofs.journal.append.Given as goal

abbrev pub invariant-loop-record : goal.invariant-loop-record
invariant-loop-record g l = l.room + taken g.W.Wire.spelling (take l.record-index l.records) ≡ room_of l.region
