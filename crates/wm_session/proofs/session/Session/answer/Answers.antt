use Rattle.wm_session.proofs.lemmas.session.AnswerLemmas.{done, refused_so}
use Rattle.wm_session.proofs.session.Session.answer.Goals as goal

pub returns-in-Ok-clause-met : goal.returns-in-Ok-clause-met
returns-in-Ok-clause-met g c =
    done g.F.Front.met c.args.self.now.front c.args.self.now.subscriptions c.args.moment c.args.request c.args.out.now.items c.meet.new.out.items c.meet.new.self.front c.meet.new.self.subscriptions c.in-Ok.ensures.met

pub returns-in-Err-clause-met : goal.returns-in-Err-clause-met
returns-in-Err-clause-met g c =
    let m = c.in-Err.ensures.met in
    refused_so g.F.Front.met c.args.self.now.front c.args.self.now.subscriptions c.args.moment c.args.request c.args.out.now.items c.meet.new.out.items _ c.in-Err.refusal _ c.meet.new.self.front c.meet.new.self.subscriptions
    (m.0, m.1, m.2.0) c.in-Err.ensures.err c.refuse.ensures.faults c.refuse.ensures.bytes
