use Rattle.std.proofs.Common.{ap, ◌∙◌, is_some}
use Rattle.serde_json.specs.View.{view}
use Rattle.wm_expr.specs.Readings.{term_of}
use Rattle.wm_expr.proofs.Left.{within_limits}
use Rattle.wm_expr.proofs.judging.is_expression.Goals as goal

pub returns : goal.returns
returns c = c.is_some.ensures ∙ (ap is_some c.judge_term.ensures ∙ within_limits (term_of (view c.args.value.now)))
