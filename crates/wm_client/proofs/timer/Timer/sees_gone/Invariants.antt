use Rattle.std.proofs.Common.{◌≡◌, ◌-◌}
use Rattle.wm_client.proofs.timer.Timer.sees_gone.Given as goal

abbrev pub invariant-loop-begun : goal.invariant-loop-begun
invariant-loop-begun g l = (l.self.system.now ≡ l.fn.self.system.now) × (l.self.limit ≡ l.fn.self.limit)

abbrev pub decreases-loop-begun : goal.decreases-loop-begun
decreases-loop-begun g l = l.self.limit - l.self.waited
