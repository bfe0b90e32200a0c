use Rattle.std.proofs.Common.{refl}
use Rattle.wm_workers.proofs.Names.{had_at, lacked_at}
use Rattle.wm_workers.proofs.roots.table.RootTable.number_of.Goals as goal

pub returns-in-Some-clause-had : goal.returns-in-Some-clause-had
returns-in-Some-clause-had g c = had_at c.args.self.now c.args.path.now c.in-Some.root.now c.in-Some.root.now.number c.numbers_rise.ensures c.in-Some.ensures refl

pub returns-in-None-clause-had : goal.returns-in-None-clause-had
returns-in-None-clause-had g c = lacked_at c.args.self.now c.args.path.now c.numbers_rise.ensures c.in-None.ensures

pub returns-in-Some-clause-found : goal.returns-in-Some-clause-found
returns-in-Some-clause-found g c = (c.in-Some.root.now, c.in-Some.ensures, refl)
