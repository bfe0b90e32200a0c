use Rattle.std.proofs.Common.{sym, ◌∙◌}
use Rattle.wm_expr.proofs.Runs.{at_end, at_star, differs}
use Rattle.wm_expr.proofs.component.fits_component.Goals as goal

pub returns-in-Star : goal.returns-in-Star
returns-in-Star c = c.fits_behind_a_run.ensures ∙ sym (at_star c.args.pattern.now c.args.text.now c.in-Star.rest.now c.in-Star.left.now (sym c.in-Star.ensures))

pub returns-in-Done : goal.returns-in-Done
returns-in-Done c = sym (at_end c.args.pattern.now c.args.text.now (sym c.in-Done.ensures))

pub returns-in-Mismatch : goal.returns-in-Mismatch
returns-in-Mismatch c = sym (differs c.args.pattern.now c.args.text.now (sym c.in-Mismatch.ensures))
