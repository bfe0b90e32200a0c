use Rattle.std.proofs.Common.{refl, sym, ◌∙◌}
use Rattle.std.proofs.lemmas.Result.{IfErr-weaker, IfOk-weaker}
use Rattle.serde_json.specs.View.{view}
use Rattle.wm_expr.specs.Readings.{expression_of, term_of}
use Rattle.wm_expr.specs.Views.{term}
use Rattle.wm_expr.proofs.Within.{in_limits, is_none, too_deep}
use Rattle.wm_expr.proofs.expr.Expr.read.Goals as goal

pub returns-then-not-is_expression-clause-refused :
    goal.returns-then-not-is_expression-clause-refused
returns-then-not-is_expression-clause-refused c = λ ne. (refl, is_none (expression_of (view c.args.value.now)) (sym c.is_expression.ensures ∙ c.if-not-is_expression.true))

pub returns-clause-ok : goal.returns-clause-ok
returns-clause-ok c =
    IfOk-weaker c.read_term.result _ _ (λ e h. in_limits (term_of (view c.args.value.now)) (term e) h (sym c.is_expression.ensures ∙ c.if-not-is_expression.false)) c.read_term.ensures.ok

pub returns-clause-refused : goal.returns-clause-refused
returns-clause-refused c =
    IfErr-weaker c.read_term.result _ _ (λ e h ne. (let p = h ne in (p.0, too_deep (term_of (view c.args.value.now)) p.1))) c.read_term.ensures.refused
