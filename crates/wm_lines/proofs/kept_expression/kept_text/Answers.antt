use Rattle.serde_json.specs.View.{view}
use Rattle.wm_expr.specs.Views.{term}
use Rattle.wm_lines.proofs.KeptLemmas.{kept_as}
use Rattle.wm_lines.proofs.kept_expression.kept_text.Goals as goal

pub returns-clause-ok : goal.returns-clause-ok
returns-clause-ok c = kept_as (view c.args.value.now) (term c.in_ok-read.field-0) _ c.in_ok-read.ensures.ok c.in_ok-to_string.ensures.text
