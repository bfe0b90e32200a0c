use Rattle.wm_session.proofs.lemmas.session.AnswerLemmas.{unread}
use Rattle.wm_session.proofs.session.Session.reply.Goals as goal

pub returns-in-Err-clause-met : goal.returns-in-Err-clause-met
returns-in-Err-clause-met g c =
    unread g.F.Front.met c.args.self.now.front c.args.self.now.subscriptions c.args.moment c.args.line.now c.args.out.now.items _ c.in-Err.refusal _
    (g.met.F.Front.idles c.args.self.now.front) (g.met.F.Front.stands c.args.self.now.front) c.in-Err.ensures.refused c.refuse.ensures.faults c.refuse.ensures.bytes
