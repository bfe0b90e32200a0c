use Rattle.std.proofs.Common.{refl, sym, ◌∙◌, option_map}
use Rattle.wm_names.specs.Paths.{components}
use Rattle.wm_expr.specs.Globs.{parts_of}
use Rattle.wm_expr.specs.Patterns.{fits_components}
use Rattle.wm_expr.proofs.DeepRuns.{deep_step, parts_differ, parts_end, parts_shorter}
use Rattle.wm_expr.proofs.Runs.{at_once, none_at_all, not_here}
use Rattle.wm_expr.proofs.pattern.fits_behind_a_run.Goals as goal

pub loop-behind-smaller-in-Star : goal.loop-behind-smaller-in-Star
loop-behind-smaller-in-Star c =
    parts_shorter (components c.loop-behind.rest.now) (parts_of (option_map (λ s. s.now) c.loop-behind.left)) (components c.in-Star.behind.now) (parts_of (option_map (λ s. s.now) c.in-Star.stands)) (sym c.in-Star.ensures)

pub loop-behind-preserved-in-Star : goal.loop-behind-preserved-in-Star
loop-behind-preserved-in-Star c =
    deep_step (components c.loop-behind.rest.now) (parts_of (option_map (λ s. s.now) c.loop-behind.left)) (components c.in-Star.behind.now) (parts_of (option_map (λ s. s.now) c.in-Star.stands)) (sym c.in-Star.ensures)
    ∙ c.loop-behind.invariant

pub returns-in-Done : goal.returns-in-Done
returns-in-Done c =
    let ps = components c.loop-behind.rest.now in
    let ts = parts_of (option_map (λ s. s.now) c.loop-behind.left) in
    sym (at_once (fits_components ps) ts (parts_end ps ts (sym c.in-Done.ensures))) ∙ c.loop-behind.invariant

pub returns-in_default : goal.returns-in_default
returns-in_default c =
    let ps = components c.loop-behind.rest.now in
    let ts = parts_of (option_map (λ s. s.now) c.loop-behind.left) in
    sym (none_at_all (fits_components ps) ts (rw c.in_default.is refl) (parts_differ ps ts (sym c.in-Mismatch.ensures))) ∙ c.loop-behind.invariant

pub loop-behind-preserved : goal.loop-behind-preserved
loop-behind-preserved c =
    let ps = components c.loop-behind.rest.now in
    let ts = parts_of (option_map (λ s. s.now) c.loop-behind.left) in
    not_here (fits_components ps) ts c.cut.result.0.now (parts_of (option_map (λ s. s.now) c.cut.result.1)) (rw c.in-Some.is c.cut.ensures) (parts_differ ps ts (sym c.in-Mismatch.ensures))
    ∙ c.loop-behind.invariant
