use Rattle.std.proofs.Common.{refl, rules}
use Rattle.wm_registry.specs.Roots.{root_at}
use Rattle.wm_session.specs.session.Fronts.{Lists}
use Rattle.wm_session.specs.session.Sessions.{triggers_met}
use Rattle.wm_session.proofs.lemmas.session.SessionLemmas.{listed_memory}
use Rattle.wm_session.proofs.session.Session.triggers.Goals as goal

pub returns-in_err-put_triggers-clause-met : goal.returns-in_err-put_triggers-clause-met
returns-in_err-put_triggers-clause-met g c =
    let old = c.args.self.now.front in
    let new = c.look.new.self in
    let l = c.in_ok-look.ensures.met in
    let out = listed_memory g.F.Front.met g.F.Front.shown old new l (λ s. g.met.F.Front.runs_out old new Lists s refl) in
    let at = out (triggers_met l.found (root_at c.args.path.now l.found.registry)).accepts in search rules
