use Rattle.std.proofs.Common.{◌≡◌, ◌++◌}
use Rattle.wm_world.proofs.Beginning.{begun_views}
use Rattle.wm_world.proofs.starting.begin_views.Given as goal

abbrev pub invariant-loop-number : goal.invariant-loop-number
invariant-loop-number l = l.views.items ++ begun_views l.incarnation l.number l.to ≡ l.fn.views.items ++ begun_views l.incarnation l.from l.to
