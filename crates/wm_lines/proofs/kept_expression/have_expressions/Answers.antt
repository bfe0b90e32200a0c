use Rattle.std.proofs.Common.{◌≡◌, List, sym, ap, ◌∙◌}
use Rattle.std.specs.List.{list_all}
use Rattle.std.specs.Map.{values_of}
use Rattle.wm_names.specs.Paths.{Path}
use Rattle.wm_registry.specs.declared.root.Root.{Root}
use Rattle.wm_lines.specs.KeptExpressions.{has_expression}
use Rattle.wm_lines.proofs.KeptLemmas.{all_by_values}
use Rattle.wm_lines.proofs.kept_expression.have_expressions.Goals as goal

pub loop-root-init : goal.loop-root-init
loop-root-init c =
    let registry = c.args.registry.now in
    let all : c.into_iter-root-iterator.result ≡ values_of registry.roots = c.into_iter-root-iterator.ensures.into_iter_gives ∙ c.values-root-items.ensures.rest ∙ ap (λ (roots : List (Path × Root)). values_of roots) c.roots.ensures in
    all_by_values registry.roots ∙ ap (λ (roots : List Root). list_all (λ root. list_all has_expression root.triggers) roots) (sym all)
