use Rattle.std.proofs.Common.{◌≡◌, ◌++◌, map}
use Rattle.wm_session.specs.session.Watched.{first_views, new_view}
use Rattle.wm_session.proofs.local.root_views.first_views.Given as goal

abbrev pub invariant-loop-root : goal.invariant-loop-root
invariant-loop-root l = first_views l.registry ≡ l.views.items ++ map (λ root. new_view l.registry.incarnation root.number) l.root-iterator
