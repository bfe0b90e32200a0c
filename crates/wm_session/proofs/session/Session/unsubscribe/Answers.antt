use Rattle.std.proofs.Common.{refl, rules}
use Rattle.wm_registry.specs.Roots.{root_at}
use Rattle.wm_session.specs.session.Fronts.{Lists}
use Rattle.wm_session.specs.session.Sessions.{unsubscribe_met}
use Rattle.wm_session.proofs.lemmas.session.SessionLemmas.{listed_memory}
use Rattle.wm_session.proofs.session.Session.unsubscribe.Goals as goal

pub returns-in_err-put_unsubscribe-clause-met : goal.returns-in_err-put_unsubscribe-clause-met
returns-in_err-put_unsubscribe-clause-met g c =
    let old = c.args.self.now.front in
    let new = c.look.new.self in
    let l = c.in_ok-look.ensures.met in
    let out = listed_memory g.F.Front.met g.F.Front.shown old new l (λ s. g.met.F.Front.runs_out old new Lists s refl) in
    let at = out (unsubscribe_met l.found c.args.self.now.subscriptions c.args.root.now c.args.name.now (root_at c.args.root.now l.found.registry)).accepts in search rules
