use Rattle.std.proofs.Common.{ℕ, List, sym, ap, ◌∙◌}
use Rattle.std.proofs.lemmas.List.{take_rest}
use Rattle.wm_expr.specs.Patterns.{behind_a_run, fits_component}
use Rattle.wm_expr.proofs.Runs.{apart_end, apart_step, at_end, at_once, star_shorter, star_step}
use Rattle.wm_expr.proofs.component.fits_behind_a_run.Goals as goal

pub loop-behind-smaller-in-Star : goal.loop-behind-smaller-in-Star
loop-behind-smaller-in-Star c = star_shorter c.loop-behind.rest.now c.loop-behind.left.now c.in-Star.behind.now c.in-Star.stands.now (sym c.in-Star.ensures)

pub loop-behind-preserved-in-Star : goal.loop-behind-preserved-in-Star
loop-behind-preserved-in-Star c = star_step c.loop-behind.rest.now c.loop-behind.left.now c.in-Star.behind.now c.in-Star.stands.now (sym c.in-Star.ensures) ∙ c.loop-behind.invariant

pub returns-in-Done : goal.returns-in-Done
returns-in-Done c = sym (at_once (fits_component c.loop-behind.rest.now) c.loop-behind.left.now (at_end c.loop-behind.rest.now c.loop-behind.left.now (sym c.in-Done.ensures))) ∙ c.loop-behind.invariant

pub returns-then-is_empty : goal.returns-then-is_empty
returns-then-is_empty c = sym (apart_end c.loop-behind.rest.now c.loop-behind.left.now (sym c.in-Mismatch.ensures) (sym c.if-is_empty.ensures)) ∙ c.loop-behind.invariant

pub loop-behind-preserved : goal.loop-behind-preserved
loop-behind-preserved c =
    ap (λ (s : List ℕ). behind_a_run (fits_component c.loop-behind.rest.now) s) (take_rest c.loop-behind.left.now 1)
    ∙ (apart_step c.loop-behind.rest.now c.loop-behind.left.now (sym c.in-Mismatch.ensures) (sym c.if-is_empty.ensures) ∙ c.loop-behind.invariant)
