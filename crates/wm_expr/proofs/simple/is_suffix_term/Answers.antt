use Rattle.std.proofs.Common.{length, arith, sym, ap, ◌∙◌, is_some}
use Rattle.std.proofs.lemmas.Bool.{eqb-false}
use Rattle.serde_json.specs.View.{view}
use Rattle.wm_expr.proofs.Alone.{suffix_alone}
use Rattle.wm_expr.proofs.simple.is_suffix_term.Goals as goal

pub returns-else-is_empty : goal.returns-else-is_empty
returns-else-is_empty c =
    let some = eqb-false (length c.args.rest.now) 0 (sym c.if-is_empty.ensures) in
    c.if-is_empty.false ∙ sym (ap is_some (suffix_alone (view c.args.first.now) c.args.rest.now (omega arith)))
