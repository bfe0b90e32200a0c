use Rattle.std.proofs.Common.{[]}
use Rattle.wm_session.specs.local.LocalLaws.{stays}
use Rattle.wm_session.proofs.local.local_front.LocalFrontFront.look.Goals as goal

pub returns-clause-later : goal.returns-clause-later
returns-clause-later g c = stays g.D.Disk [] c.args.self.now.store
