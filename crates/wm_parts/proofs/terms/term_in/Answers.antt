use Rattle.std.proofs.Common.{◌≡◌, Option, false, None, Some, refl, sym, ◌∙◌, true≢false}
use Rattle.std.specs.Prelude.{is_some}
use Rattle.serde_json.specs.View.{view}
use Rattle.wm_expr.specs.Readings.{expression_of}
use Rattle.wm_expr.specs.Terms.{Term}
use Rattle.wm_parts.proofs.terms.term_in.Goals as goal

none_is : (x : Option Term) → is_some x ≡ false → x ≡ None
none_is None e = refl
none_is (Some x) e = absurd (true≢false e)

pub refused_term-requires : goal.refused_term-requires
refused_term-requires c = none_is (expression_of (view c.args.value.now)) (sym c.is_expression.ensures ∙ c.if-is_expression.false)
