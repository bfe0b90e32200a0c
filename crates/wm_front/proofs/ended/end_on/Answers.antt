use Rattle.std.proofs.Common.{ap}
use Rattle.wm_front.proofs.Ending.{ended_earlier, ended_without}
use Rattle.wm_front.proofs.ended.end_on.Goals as goal

pub returns-in-Some-clause-ended : goal.returns-in-Some-clause-ended
returns-in-Some-clause-ended g c =
    ended_earlier (g.H.Roots.has c.args.roots.now) (g.H.Roots.lacks c.args.roots.now) c.args.path.now c.in-Some.number c.args.session.now.subscriptions c.end_earlier.new.self.subscriptions c.in-Some.ensures
    (ap (λ s. s.subscriptions) c.end_earlier.ensures)

pub returns-in-None-clause-ended : goal.returns-in-None-clause-ended
returns-in-None-clause-ended g c =
    ended_without (g.H.Roots.has c.args.roots.now) (g.H.Roots.lacks c.args.roots.now) c.args.path.now c.args.session.now.subscriptions c.end_root.new.self.subscriptions c.in-None.ensures
    (ap (λ s. s.subscriptions) c.end_root.ensures)
