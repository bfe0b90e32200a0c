use Rattle.std.proofs.Common.{◌≡◌, inl, refl, sym, ap, subst}
use Rattle.wm_world.specs.declared.other.Other.TheVariants.{Nothing}
use Rattle.wm_world.specs.Headline.{IsDrivenFrom}
use Rattle.wm_world.specs.Refinement.{AreHonest, Disks, OtherIs, disks_of_world}
use Rattle.wm_world.specs.Worlds.{nothing_yet}
use Rattle.wm_world.proofs.Moments.{one_moment, one_moment_of_answers}
use Rattle.wm_world.proofs.driving.drive.Goals as goal

pub returns : goal.returns
returns g c =
    let D = g.D.Disk in
    let r = c.in_ok-world.ensures in
    let there = c.new-first.ensures.disks in
    let alone : (disks_of_world D c.in_ok-world.world).other ≡ Nothing = r.alone (ap (λ (d : Disks _). d.other) there) in
    let whole : D.honest (disks_of_world D c.in_ok-world.world).used → AreHonest D (disks_of_world D c.in_ok-world.world) = λ h. (h, subst (OtherIs D.honest) (sym alone) tt) in
    let honest : D.honest (disks_of_world D c.in_ok-world.world).used → D.honest c.args.disk = λ h. (subst (AreHonest D) there (r.honest (whole h))).0 in
    record {
      run = λ h. subst (λ (d : Disks _). IsDrivenFrom D g.D.Crashed.plan (record { disks = d; world = nothing_yet (D.failures c.args.disk) }) c.args.events.items c.in_ok-world.world) there
          (r.run (whole h) (nothing_yet (D.failures c.args.disk)) (inl (D.failures c.args.disk, refl)) (c.new-first.ensures.stands (c.requires.formatted (honest h)) refl));
      honest = honest;
      one_moment = one_moment c.every_registry.ensures.rises c.every_registry.ensures.in_order c.every_operation.ensures.in_range c.clock_laws.ensures.one_text;
      answers = one_moment_of_answers c.every_registry.ensures.rises c.every_registry.ensures.in_order c.every_operation.ensures.in_range c.clock_laws.ensures.one_text;
      memory = tt;
    }

pub returns-in_err-world-clause-one_moment : goal.returns-in_err-world-clause-one_moment
returns-in_err-world-clause-one_moment g c = one_moment c.every_registry.ensures.rises c.every_registry.ensures.in_order c.every_operation.ensures.in_range c.clock_laws.ensures.one_text

pub returns-in_err-world-clause-answers : goal.returns-in_err-world-clause-answers
returns-in_err-world-clause-answers g c = one_moment_of_answers c.every_registry.ensures.rises c.every_registry.ensures.in_order c.every_operation.ensures.in_range c.clock_laws.ensures.one_text
