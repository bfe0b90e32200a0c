use Rattle.std.proofs.Common.{◌<◌, false, arith}
use Rattle.std.proofs.lemmas.Fmt.{hex_byte}
use Rattle.std.proofs.lemmas.Bool.Decides.{nat_tests}
use Rattle.wm_explain.proofs.escapes.put.Goals as goal

pub returns-in_ok-push_str : goal.returns-in_ok-push_str
returns-in_ok-push_str c =
    let low : c.args.c < 256 = grind (arith, nat_tests, c.is_control.ensures, c.if-is_control.true) in
    let digits = hex_byte false c.args.c low in
    let e = c.in_ok-format.ensures.ok in
    grind (arith, nat_tests, digits, e, c.is_control.ensures, c.if-is_control.true, c.from-code.ensures)
