use Rattle.std.proofs.Common.{◌∙◌, ap, inl, subst, sym}
use Rattle.std.specs.Prelude.{OnOk}
use Rattle.wm_disk.specs.Moments.{LeavesOnly}
use Rattle.wm_session.specs.local.Stores.{IsKeptOn}
use Rattle.wm_session.proofs.local.local_front.LocalFront.close.Goals as goal
use Rattle.wm_store.specs.Meant.{MeansRegistry}

pub returns-clause-kept : goal.returns-clause-kept
returns-clause-kept g c =
    subst (λ r. g.D.Disk.honest c.into_disk.result → OnOk c.close-closed.result (IsKeptOn g.D.Disk r c.into_disk.result)) c.close-closed.ensures.registry.0
    (subst (λ d. g.D.Disk.honest d → OnOk c.close-closed.result (IsKeptOn g.D.Disk c.close-closed.new.self.registry d)) (sym c.into_disk.ensures.value) c.close-closed.ensures.means)

pub returns-clause-any_moment : goal.returns-clause-any_moment
returns-clause-any_moment g c = λ works.
    subst (λ d. g.D.Disk.honest d → LeavesOnly g.D.Disk.moment g.D.Disk.left_since c.args.self.store.disk d (MeansRegistry c.args.self.store.registry)) (sym c.into_disk.ensures.value) (c.close-closed.ensures.any_moment works)

pub returns-clause-still : goal.returns-clause-still
returns-clause-still g c = λ failed.
    let same = c.close-closed.ensures.calls.down (c.close-closed.ensures.calls.stays_down (inl failed)) in
    c.into_disk.ensures.value ∙ ap (λ s. s.disk) same.1
