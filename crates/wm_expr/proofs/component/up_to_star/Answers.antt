use Rattle.std.proofs.Common.{sym, ◌∙◌}
use Rattle.wm_expr.proofs.Runs.{ended}
use Rattle.wm_expr.proofs.component.up_to_star.Goals as goal

pub returns-else-text-pattern : goal.returns-else-text-pattern
returns-else-text-pattern c =
    let l = c.loop-i in
    sym (ended c.args.pattern.now c.args.text.now l.i c.loop-i-test.false l.invariant.inside l.auto.i-end c.if-text-pattern.false) ∙ l.invariant.same
