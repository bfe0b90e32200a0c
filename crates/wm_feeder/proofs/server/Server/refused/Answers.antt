use Rattle.std.proofs.Common.{None, inr, refl, subst}
use Rattle.wm_client.specs.RefusalLines.{IsRefusalOf}
use Rattle.wm_feeder.proofs.server.Server.refused.Goals as goal

pub returns-in-None-clause-failed : goal.returns-in-None-clause-failed
returns-in-None-clause-failed g c =
    inr (refl, subst (λ line. IsRefusalOf line None) c.deref.ensures.value (subst (IsRefusalOf c.deref.result.now) c.in-None.is c.refusal_of.ensures))
