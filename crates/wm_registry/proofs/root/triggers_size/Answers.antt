use Rattle.std.proofs.Common.{◌≡◌, ◌-◌, length, sym, subst, arith}
use Rattle.wm_wire.specs.Spelling.{list_spelling}
use Rattle.wm_registry.specs.Placing.{ArePlaced}
use Rattle.wm_registry.specs.Spelling.{trigger_spelling}
use Rattle.wm_registry.specs.declared.version.Version.{Version}
use Rattle.wm_registry.specs.declared.version.Version.TheVariants.{One}
use Rattle.wm_registry.proofs.Placed.{length-all-one, list_fits}
use Rattle.wm_registry.proofs.root.triggers_size.Goals as goal

pub overflow_sub-result : goal.overflow_sub-result
overflow_sub-result c =
    let placed : ArePlaced One c.args.triggers.now = subst (λ (v : Version). ArePlaced v c.args.triggers.now) c.in-One.is c.requires in
    omega (arith, c.size-size.ensures.exact, c.len.ensures, length-all-one c.args.triggers.now placed)

pub returns-in-One-clause-exact : goal.returns-in-One-clause-exact
returns-in-One-clause-exact c =
    let placed : ArePlaced One c.args.triggers.now = subst (λ (v : Version). ArePlaced v c.args.triggers.now) c.in-One.is c.requires in
    subst (λ (v : Version). c.size-size.result - c.len.result ≡ length (list_spelling (trigger_spelling v) c.args.triggers.now)) (sym c.in-One.is)
    (omega (arith, c.size-size.ensures.exact, c.len.ensures, length-all-one c.args.triggers.now placed))

pub returns-in-One-clause-fits : goal.returns-in-One-clause-fits
returns-in-One-clause-fits c = list_fits c.args.version c.args.triggers.now c.size-size.ensures.fits c.requires
