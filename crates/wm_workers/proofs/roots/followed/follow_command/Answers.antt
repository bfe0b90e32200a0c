use Rattle.std.proofs.Common.{refl, subst, sym}
use Rattle.wm_workers.specs.FollowedRoots.{IsStepOf, root_made as root_made_lem, numbered_roots}
use Rattle.wm_workers.proofs.Steps.{trigger_del_step, trigger_step, unwatch_step, watch_step}
use Rattle.wm_workers.proofs.roots.followed.follow_command.Goals as goal

pub returns-in-Watch-clause-step : goal.returns-in-Watch-clause-step
returns-in-Watch-clause-step g c =
    let old = c.args.roots.now in
    let new = c.watch.new.roots in
    subst (λ command. IsStepOf command (numbered_roots old) (numbered_roots new)) (sym c.in-Watch.is)
    (watch_step c.in-Watch.path (record { path = c.in-Watch.path; number = old.next; watched = root_made_lem old.next c.args.made }) old new c.args.unstarted.now c.watch.new.unstarted refl refl c.watch.ensures)

pub returns-in-WatchDel-clause-step : goal.returns-in-WatchDel-clause-step
returns-in-WatchDel-clause-step g c =
    let old = c.args.roots.now in
    let new = c.unwatch.new.roots in
    subst (λ command. IsStepOf command (numbered_roots old) (numbered_roots new)) (sym c.in-WatchDel.is) (unwatch_step c.in-WatchDel.path old new c.unwatch.ensures.taken)

pub returns-in-Trigger-clause-step : goal.returns-in-Trigger-clause-step
returns-in-Trigger-clause-step g c =
    let at = numbered_roots c.args.roots.now in
    subst (λ command. IsStepOf command at at) (sym c.in-Trigger.is) (trigger_step c.in-Trigger.path c.in-Trigger.trigger at)

pub returns-in-TriggerDel-clause-step : goal.returns-in-TriggerDel-clause-step
returns-in-TriggerDel-clause-step g c =
    let at = numbered_roots c.args.roots.now in
    subst (λ command. IsStepOf command at at) (sym c.in-TriggerDel.is) (trigger_del_step c.in-TriggerDel.path c.in-TriggerDel.name at)
