use Rattle.std.proofs.Common.{◌+◌, ◌-◌, length}
use Rattle.std.proofs.lemmas.List.{take_rest}
use Rattle.wm_expr.proofs.Suffixes.{ending, too_short}
use Rattle.wm_expr.proofs.meaning.has_suffix.Goals as goal

pub returns-then-name-suffix : goal.returns-then-name-suffix
returns-then-name-suffix c = too_short c.args.name.now c.args.suffix.now c.if-name-suffix.true

pub returns-then-name-dot-eq46 : goal.returns-then-name-dot-eq46
returns-then-name-dot-eq46 c =
    let name = c.args.name.now in
    let test = c.eq_ignore_ascii_case.ensures.test in
    ending name c.args.suffix.now _ c.eq_ignore_ascii_case.result c.if-name-suffix.false c.if-name-dot-eq46.true (take_rest name (length name - length c.args.suffix.now - 1 + 1)) test.0 test.1
