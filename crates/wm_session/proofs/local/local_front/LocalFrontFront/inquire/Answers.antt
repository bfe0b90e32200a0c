use Rattle.std.proofs.Common.{[]}
use Rattle.wm_session.specs.local.LocalLaws.{stays}
use Rattle.wm_session.proofs.local.local_front.LocalFrontFront.inquire.Goals as goal

pub returns-in_err-moves-clause-later : goal.returns-in_err-moves-clause-later
returns-in_err-moves-clause-later g c = stays g.D.Disk [] c.args.self.now.store

pub returns-in-Some-clause-later : goal.returns-in-Some-clause-later
returns-in-Some-clause-later g c = stays g.D.Disk [] c.args.self.now.store

pub returns-in_default-clause-later : goal.returns-in_default-clause-later
returns-in_default-clause-later g c = stays g.D.Disk [] c.args.self.now.store
