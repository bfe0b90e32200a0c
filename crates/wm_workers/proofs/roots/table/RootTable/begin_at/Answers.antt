use Rattle.std.proofs.Common.{arith}
use Rattle.wm_workers.proofs.Rising.{rise_to}
use Rattle.wm_workers.proofs.roots.table.RootTable.begin_at.Goals as goal

pub invariant_of-self : goal.invariant_of-self
invariant_of-self g c = (c.self.invariant.0, rise_to 0 c.self.inside.roots.items c.self.inside.next c.args.next c.self.invariant.1 (omega arith))
