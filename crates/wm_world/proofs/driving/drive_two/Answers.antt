use Rattle.std.proofs.Common.{inr, refl, subst}
use Rattle.wm_world.specs.Headline.{IsDrivenFrom}
use Rattle.wm_world.specs.Refinement.{AreHonest, Disks}
use Rattle.wm_world.specs.Worlds.{nothing_yet_of_two}
use Rattle.wm_world.proofs.Moments.{one_moment, one_moment_of_answers}
use Rattle.wm_world.proofs.driving.drive_two.Goals as goal

pub returns : goal.returns
returns g c =
    let D = g.D.Disk in
    let r = c.in_ok-world.ensures in
    let there = c.new-first.ensures.disks in
    let old = c.args.old in
    let new = c.args.new in
    record {
      run = λ h k. subst (λ (d : Disks _). IsDrivenFrom D g.D.Crashed.plan (record { disks = d; world = nothing_yet_of_two (D.failures old) (D.failures new) }) c.args.events.items c.in_ok-world.world) there
          (r.run (h, k) (nothing_yet_of_two (D.failures old) (D.failures new)) (inr (D.failures old, D.failures new, refl)) (c.new-first.ensures.stands_on_two (c.requires.formatted (subst (AreHonest D) there (r.honest (h, k))).0) new refl));
      honest = λ h k. subst (AreHonest D) there (r.honest (h, k));
      one_moment = one_moment c.every_registry.ensures.rises c.every_registry.ensures.in_order c.every_operation.ensures.in_range c.clock_laws.ensures.one_text;
      answers = one_moment_of_answers c.every_registry.ensures.rises c.every_registry.ensures.in_order c.every_operation.ensures.in_range c.clock_laws.ensures.one_text;
      memory = tt;
    }

pub returns-in_err-world-clause-one_moment : goal.returns-in_err-world-clause-one_moment
returns-in_err-world-clause-one_moment g c = one_moment c.every_registry.ensures.rises c.every_registry.ensures.in_order c.every_operation.ensures.in_range c.clock_laws.ensures.one_text

pub returns-in_err-world-clause-answers : goal.returns-in_err-world-clause-answers
returns-in_err-world-clause-answers g c = one_moment_of_answers c.every_registry.ensures.rises c.every_registry.ensures.in_order c.every_operation.ensures.in_range c.clock_laws.ensures.one_text
