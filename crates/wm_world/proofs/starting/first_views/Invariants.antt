use Rattle.std.proofs.Common.{◌≡◌, ◌++◌, map}
use Rattle.wm_view.specs.Histories.{new_history}
use Rattle.wm_view.specs.Summaries.{summary}
use Rattle.wm_world.specs.Worlds.{begun_all}
use Rattle.wm_world.proofs.starting.first_views.Given as goal

abbrev pub invariant-loop-root : goal.invariant-loop-root
invariant-loop-root l = map summary (begun_all l.registry) ≡ l.views.items ++ map (λ root. summary (new_history l.registry.incarnation root.number)) l.root-iterator
