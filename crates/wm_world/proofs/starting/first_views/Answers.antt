use Rattle.std.proofs.Common.{◌≡◌, ◌++◌, List, map, sym, ap, ◌∙◌}
use Rattle.std.specs.Map.{values_of}
use Rattle.wm_registry.specs.declared.root.Root.{Root}
use Rattle.wm_view.specs.Histories.{new_history}
use Rattle.wm_view.specs.Summaries.{Summary, summary}
use Rattle.wm_world.proofs.Beginning.{by_values}
use Rattle.wm_world.proofs.starting.first_views.Goals as goal

pub loop-root-init : goal.loop-root-init
loop-root-init c =
    let registry = c.args.registry.now in
    let gone : c.into_iter-root-iterator.result ≡ values_of registry.roots = c.into_iter-root-iterator.ensures.into_iter_gives ∙ c.values-root-items.ensures.rest ∙ ap values_of c.roots-roots.ensures in
    by_values registry.incarnation registry.roots ∙ ap (λ (roots : List Root). map (λ root. summary (new_history registry.incarnation root.number)) roots) (sym gone)
    ∙ ap (λ (views : List Summary). views ++ map (λ root. summary (new_history registry.incarnation root.number)) c.into_iter-root-iterator.result) (sym c.in_ok-views.ensures.items)
