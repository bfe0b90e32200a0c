use Rattle.std.proofs.Common.{◌≡◌, ◌++◌, List, map, sym, ap, ◌∙◌}
use Rattle.std.specs.Map.{values_of}
use Rattle.wm_registry.specs.declared.root.Root.{Root}
use Rattle.wm_session.specs.declared.local.root_views.RootView.{RootView}
use Rattle.wm_session.specs.session.Watched.{new_view}
use Rattle.wm_session.proofs.lemmas.local.WatchedLemmas.{Roots, first_by_values}
use Rattle.wm_session.proofs.local.root_views.first_views.Goals as goal

pub loop-root-init : goal.loop-root-init
loop-root-init c =
    let registry = c.args.registry.now in
    let gone : c.into_iter-root-iterator.result ≡ values_of registry.roots = c.into_iter-root-iterator.ensures.into_iter_gives ∙ c.values-root-items.ensures.rest ∙ ap (λ (roots : Roots). values_of roots) c.roots-roots.ensures in
    first_by_values registry.incarnation registry.roots ∙ ap (λ (roots : List Root). map (λ root. new_view registry.incarnation root.number) roots) (sym gone)
    ∙ ap (λ (views : List RootView). views ++ map (λ root. new_view registry.incarnation root.number) c.into_iter-root-iterator.result) (sym c.in_ok-views.ensures.items)
