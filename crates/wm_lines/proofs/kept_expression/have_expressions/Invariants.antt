use Rattle.std.proofs.Common.{◌≡◌}
use Rattle.std.specs.List.{list_all}
use Rattle.wm_lines.specs.KeptExpressions.{has_expression, have_expressions}
use Rattle.wm_lines.proofs.kept_expression.have_expressions.Given as goal

abbrev pub invariant-loop-root : goal.invariant-loop-root
invariant-loop-root l = have_expressions l.registry ≡ list_all (λ root. list_all has_expression root.triggers) l.root-iterator
