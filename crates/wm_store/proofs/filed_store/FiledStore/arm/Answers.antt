use Rattle.std.proofs.Common.{◌∙◌}
use Rattle.wm_store.proofs.Stores.{inside_after}
use Rattle.wm_store.proofs.filed_store.FiledStore.arm.Goals as goal

pub invariant_of-self : goal.invariant_of-self
invariant_of-self g c =
    let k = c.arm.ensures in
    let i = c.self.inside in
    inside_after g.D.Disk g.V.Layout.sizes g.V.Filed.version g.met.V.Filed.laid_out g.met.D.Disk.counts_now i.keeper c.arm.new.self i.before i.closed i.closed c.self.invariant k.kept k.same.0.state
    (λ down. (k.flag ∙ down, λ h. (k.device.0 h, (k.reads h).crash)))
    k.crash
