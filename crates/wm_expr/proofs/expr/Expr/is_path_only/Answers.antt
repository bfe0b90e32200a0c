use Rattle.std.proofs.Common.{sym, ◌∙◌}
use Rattle.wm_expr.specs.Views.{term}
use Rattle.wm_expr.specs.PathLaws.{reads_path_alone}
use Rattle.wm_expr.proofs.expr.Expr.is_path_only.Goals as goal

pub returns-clause-meaning : goal.returns-clause-meaning
returns-clause-meaning c = λ is. reads_path_alone (term c.args.self.now) (sym c.names_paths.ensures ∙ is)
