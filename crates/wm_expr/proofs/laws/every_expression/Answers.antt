use Rattle.wm_expr.specs.PathLaws.{reads_path_alone}
use Rattle.wm_expr.proofs.laws.every_expression.Goals as goal

pub returns : goal.returns
returns c = reads_path_alone
