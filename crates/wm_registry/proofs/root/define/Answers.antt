use Rattle.std.proofs.Common.{◌≡◌, None, Some, position, sym, ◌∙◌}
use Rattle.wm_registry.specs.Triggers.{is_named}
use Rattle.wm_registry.proofs.Named.{defined-at, defined-none}
use Rattle.wm_registry.proofs.root.define.Goals as goal
use Rattle.wm_registry.proofs.root.define.Goals.{in-Ok, in-Err}

pub returns-after-set-clause-ok : goal.returns-after-set-clause-ok
returns-after-set-clause-ok c =
    let found : position (is_named c.args.trigger.name) c.args.triggers.now ≡ Some c.in-Some.place = cc in
    let at = defined-at c.args.trigger c.args.triggers.now c.in-Some.place found in
    elim c.match-set.branch [
      | in-Ok w ↦ rw w.result-is (w.in-Ok.ensures.ok ∙ sym at)
      | in-Err w ↦ rw w.result-is tt
    ]

pub returns-in-Ok-push-clause-ok : goal.returns-in-Ok-push-clause-ok
returns-in-Ok-push-clause-ok c =
    let none : position (is_named c.args.trigger.name) c.args.triggers.now ≡ None = cc in
    c.in-Ok-push.ensures.ok ∙ sym (defined-none c.args.trigger c.args.triggers.now none)
