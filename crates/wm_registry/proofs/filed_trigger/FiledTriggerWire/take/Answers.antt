use Rattle.std.proofs.Common.{◌≡◌, false}
use Rattle.wm_wire.specs.Spelling.{BeginsWith}
use Rattle.wm_registry.specs.Triggers.{has_program}
use Rattle.wm_registry.proofs.TriggerParts.{AreParts, parts_spelling, no_parts, no_program}
use Rattle.wm_registry.proofs.filed_trigger.FiledTriggerWire.take.Goals as goal

pub returns-in_default : goal.returns-in_default
returns-in_default g c = no_parts g.V.Filed.version c.args.bytes.now (rw c.in_default.is at c.in_ok-parts.ensures)

pub returns-then-not-has_program : goal.returns-then-not-has_program
returns-then-not-has_program g c =
    let v = g.V.Filed.version in
    let begins : BeginsWith (AreParts v) (parts_spelling v) c.args.bytes.now c.in-Some.parts c.in-Some.size = rw c.in-Some.is at c.in_ok-parts.ensures in
    let broken : has_program c.in-Some.parts.1.0 ≡ false = cc in
    no_program v c.args.bytes.now c.in-Some.parts c.in-Some.size begins broken
