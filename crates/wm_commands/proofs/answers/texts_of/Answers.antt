use Rattle.std.proofs.Common.{◌≤◌, length, map, arith, sym}
use Rattle.std.specs.Prelude.{string_bytes}
use Rattle.wm_commands.proofs.Texts.{are_all, lacks_one}
use Rattle.wm_commands.proofs.answers.texts_of.Goals as goal

pub returns-in_default-clause-found : goal.returns-in_default-clause-found
returns-in_default-clause-found c =
    lacks_one c.args.values.now c.loop-value.value-index c.value-item.result c.loop-value-test.true c.value-item.is (sym (rw c.in_default.is at c.as_str.ensures))

pub returns-clause-found : goal.returns-clause-found
returns-clause-found c =
    let end : length c.args.values.now ≤ c.loop-value.value-index = grind (arith, c.loop-value-test.false) in
    are_all c.args.values.now c.loop-value.value-index (map string_bytes c.loop-value.texts.items) c.loop-value.invariant end
