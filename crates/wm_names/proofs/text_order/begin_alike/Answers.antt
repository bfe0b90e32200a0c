use Rattle.std.proofs.Common.{sym, ◌∙◌, ap, arith}
use Rattle.std.proofs.lemmas.Bool.Decides.{nat_tests}
use Rattle.std.specs.Int.{w64, to_le_bytes}
use Rattle.wm_names.proofs.text_order.begin_alike.Goals as goal

pub returns : goal.returns
returns c h =
    let x = c.in-Some-Some.ensures.cases in
    let y = c.in-Some-Some.ensures'.cases in
    (x.enough, y.enough, sym x.same ∙ sym c.word.ensures ∙ ap (to_le_bytes w64) (grind (arith, nat_tests, h)) ∙ c.word-2.ensures ∙ y.same)
