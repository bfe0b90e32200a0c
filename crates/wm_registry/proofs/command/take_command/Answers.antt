use Rattle.std.proofs.Common.{◌≡◌, get_or, drop, rules}
use Rattle.std.proofs.lemmas.List.{take_rest}
use Rattle.wm_wire.specs.Spelling.{NoneBegins, IsPair, pair_spelling, text}
use Rattle.wm_registry.specs.PathSpelling.{IsPath}
use Rattle.wm_registry.specs.Spelling.{IsName, IsTrigger, trigger_spelling}
use Rattle.wm_registry.proofs.TriggerParts.{no_trigger, no_name}
use Rattle.wm_registry.proofs.command.take_command.Goals as goal

pub returns-in-None-3 : goal.returns-in-None-3
returns-in-None-3 g c =
    let v = g.V.Filed.version in
    let none : NoneBegins (IsPair IsPath text (IsTrigger v) (trigger_spelling v)) (pair_spelling text (trigger_spelling v)) (drop 1 c.args.bytes.now) = rw take_rest at (rw c.in-None-3.is at c.in_ok-pair-in-3.ensures) in
    let tag : get_or c.args.bytes.now 0 0 ≡ 3 = search rules in
    no_trigger v c.args.bytes.now tag none

pub returns-in-None-4 : goal.returns-in-None-4
returns-in-None-4 g c =
    let none : NoneBegins (IsPair IsPath text IsName text) (pair_spelling text text) (drop 1 c.args.bytes.now) = rw take_rest at (rw c.in-None-4.is at c.in_ok-pair-in-4.ensures) in
    let tag : get_or c.args.bytes.now 0 0 ≡ 4 = search rules in
    no_name g.V.Filed.version c.args.bytes.now tag none
