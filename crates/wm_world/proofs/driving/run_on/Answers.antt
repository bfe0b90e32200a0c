use Rattle.std.proofs.Common.{◌≡◌, ◌∙◌, sym, subst, List, length, map, arith}
use Rattle.std.proofs.lemmas.Iterator.Adapters.{YieldsList-from_vec}
use Rattle.std.proofs.lemmas.Iterator.Consumers.{YieldsList-end}
use Rattle.std.proofs.lemmas.List.{map-id}
use Rattle.wm_world.specs.declared.event.Event.{Event}
use Rattle.wm_world.specs.Headline.{IsDrivenFrom}
use Rattle.wm_world.specs.Refinement.{disks_of_world}
use Rattle.wm_world.proofs.Steps.{driven_more, driven_none}
use Rattle.wm_world.proofs.driving.run_on.Goals as goal

pub loop-event-init : goal.loop-event-init
loop-event-init g c = record {
  alone = λ e. e;
  honest = λ h. h;
  driven = λ h w first stands. driven_none g.D.Disk c.every_registry.ensures.rises c.every_registry.ensures.in_order c.every_operation.ensures.in_range c.every_client.ensures g.D.Crashed.plan c.args.first w first h stands;
}

pub loop-event-preserved : goal.loop-event-preserved
loop-event-preserved g c =
    let l = c.loop-event in
    let m = c.in_ok-world.ensures in
    record {
      alone = λ e. m.alone (l.invariant.alone e);
      honest = λ h. l.invariant.honest (m.honest h);
      driven = λ h w first stands. driven_more g.D.Disk c.every_registry.ensures.rises c.every_registry.ensures.in_order c.every_operation.ensures.in_range c.every_client.ensures g.D.Crashed.plan c.args.first w first l.yielded c.in-Some.event l.world c.in_ok-world.world h
          (l.invariant.driven (m.honest h) w first stands) m;
    }

pub returns : goal.returns
returns g c =
    let D = g.D.Disk in
    let all = c.args.events.items in
    let l = c.loop-event in
    let given = c.into_iter-event-iterator.ensures.into_iter_gives in
    let road = YieldsList-from_vec {s = c.into_iter-event-iterator.result} all given.0 (omega (arith, given.1, c.args.events.ok.0)) in
    let end : (map (λ x. x) l.yielded ≡ all) × (length l.yielded ≡ length all) = YieldsList-end road l.yielded l.event-iterator l.yielded_by c.next.result c.next.new.self c.in-None.is c.next.ensures.steps in
    let ended : l.yielded ≡ all = sym (map-id l.yielded) ∙ end.0 in
    record {
      alone = l.invariant.alone;
      honest = l.invariant.honest;
      run = λ h w first stands. subst (λ (es : List Event). IsDrivenFrom D g.D.Crashed.plan (record { disks = disks_of_world D c.args.first; world = w }) es l.world) ended (l.invariant.driven h w first stands);
    }
