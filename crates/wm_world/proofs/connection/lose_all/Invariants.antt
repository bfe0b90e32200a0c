use Rattle.std.proofs.Common.{◌≡◌, ◌++◌, map, take, drop}
use Rattle.wm_world.specs.Worlds.{without_answer}
use Rattle.wm_world.proofs.connection.lose_all.Given as goal

abbrev pub invariant-loop-client : goal.invariant-loop-client
invariant-loop-client l = l.client-items ≡ map without_answer (take l.client-index l.initial.client-items) ++ drop l.client-index l.initial.client-items
