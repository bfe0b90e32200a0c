use Rattle.std.proofs.Common.{sym}
use Rattle.wm_workers.specs.WatchedRoots.{lacks_root as lacks_root_lem}
use Rattle.wm_workers.proofs.Parting.{any_at}
use Rattle.wm_workers.proofs.roots.table.RootTable.lacks_root.Goals as goal

pub returns-in-Some : goal.returns-in-Some
returns-in-Some g c = sym (any_at (lacks_root_lem c.args.number) c.args.self.now.roots c.in-Some.field-0 c.in-Some.ensures.0 c.in-Some.ensures.2)
