use Rattle.std.proofs.Common.{sym, ◌∙◌}
use Rattle.wm_expr.proofs.Cuts.{differs_at_some}
use Rattle.wm_expr.proofs.pattern.up_to_deep.Goals as goal

pub returns-in-Some-left-2 : goal.returns-in-Some-left-2
returns-in-Some-left-2 c = sym (differs_at_some c.in-Some-left-2.field-0.now) ∙ rw (c.in_default.is, c.in-Some-left-2.is) at c.loop-rest.invariant
