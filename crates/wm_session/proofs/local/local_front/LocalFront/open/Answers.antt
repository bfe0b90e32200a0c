use Rattle.std.proofs.Common.{inr, subst, sym}
use Rattle.wm_session.specs.local.Stores.{Later, StartCut}
use Rattle.wm_session.proofs.local.local_front.LocalFront.open.Goals as goal

pub returns-in-Err-first_views-clause-cut : goal.returns-in-Err-first_views-clause-cut
returns-in-Err-first_views-clause-cut g c =
    subst (λ d. StartCut g.D.Disk c.args.disk d) (sym c.into_disk.ensures.value) (λ h. let begun = c.in-Ok.ensures.begun h in inr (begun.found, begun.opened))

pub returns-in-Err-first_views-clause-later : goal.returns-in-Err-first_views-clause-later
returns-in-Err-first_views-clause-later g c = subst (λ d. Later g.D.Disk c.args.disk d) (sym c.into_disk.ensures.value) c.in-Ok.ensures.later
