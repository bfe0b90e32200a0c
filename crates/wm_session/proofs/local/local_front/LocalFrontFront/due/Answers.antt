use Rattle.std.proofs.Common.{[]}
use Rattle.wm_session.specs.local.LocalLaws.{stays}
use Rattle.wm_session.proofs.local.local_front.LocalFrontFront.due.Goals as goal

pub returns-in_default-clause-later : goal.returns-in_default-clause-later
returns-in_default-clause-later g c = stays g.D.Disk [] c.args.self.now.store

pub returns-clause-later : goal.returns-clause-later
returns-clause-later g c = stays g.D.Disk [] c.args.self.now.store

pub returns-then-root-subscribed-clause-later : goal.returns-then-root-subscribed-clause-later
returns-then-root-subscribed-clause-later g c = stays g.D.Disk [] c.args.self.now.store
