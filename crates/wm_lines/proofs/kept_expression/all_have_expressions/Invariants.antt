use Rattle.std.proofs.Common.{◌≡◌, drop}
use Rattle.std.specs.List.{list_all}
use Rattle.wm_lines.specs.KeptExpressions.{has_expression}
use Rattle.wm_lines.proofs.kept_expression.all_have_expressions.Given as goal

abbrev pub invariant-loop-trigger : goal.invariant-loop-trigger
invariant-loop-trigger l = list_all has_expression l.triggers ≡ list_all has_expression (drop l.trigger-index l.triggers)
