use Rattle.std.proofs.Common.{◌≡◌, ◌-◌}
use Rattle.wm_client.proofs.timer.Timer.make.Given as goal

abbrev pub invariant-loop-made : goal.invariant-loop-made
invariant-loop-made g l = (l.self.system.now ≡ l.fn.self.system.now) × (l.self.limit ≡ l.fn.self.limit)

abbrev pub decreases-loop-made : goal.decreases-loop-made
decreases-loop-made g l = l.self.limit - l.self.waited
