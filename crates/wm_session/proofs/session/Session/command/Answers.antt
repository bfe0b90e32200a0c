use Rattle.std.proofs.Common.{rules}
use Rattle.wm_session.specs.session.Sessions.{commanded}
use Rattle.wm_session.specs.session.Fronts.{Commands}
use Rattle.wm_session.proofs.session.Session.command.Goals as goal

-- where memory runs out nothing is submitted
pub returns-in_err-changed-clause-met : goal.returns-in_err-changed-clause-met
returns-in_err-changed-clause-met g c =
    let s = g.met.F.Front.stands c.args.self.now.front Commands tt in
    let at = s.1 (commanded s.0 c.args.command).accepts in search rules
