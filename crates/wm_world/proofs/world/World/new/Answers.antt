use Rattle.std.proofs.Common.{inl, refl, sym, subst}
use Rattle.wm_registry.specs.declared.version.Version.TheVariants.{One, Two}
use Rattle.wm_world.specs.Worlds.{Alone, Before, begun_on}
use Rattle.wm_world.specs.Refinement.{IsBeside}
use Rattle.wm_world.proofs.Steps.{begins}
use Rattle.wm_world.proofs.world.World.new.Goals as goal

pub returns-clause-stands : goal.returns-clause-stands
returns-clause-stands g c = λ formatted none. begins g.D.Disk Two Alone c.args.disk c.args.other 0 _ refl c.new-2.ensures.items c.new.ensures.items c.new-3.ensures.items formatted
    (subst (λ o. IsBeside g.D.Disk o (begun_on Two Alone (g.D.Disk.failures c.args.disk) 0)) (sym none) (refl, refl))

pub returns-clause-stands_on_two : goal.returns-clause-stands_on_two
returns-clause-stands_on_two g c = λ formatted new is. begins g.D.Disk One Before c.args.disk c.args.other (g.D.Disk.failures new) _ refl c.new-2.ensures.items c.new.ensures.items c.new-3.ensures.items formatted
    (subst (λ o. IsBeside g.D.Disk o (begun_on One Before (g.D.Disk.failures c.args.disk) (g.D.Disk.failures new))) (sym is) (inl refl, refl, refl))
