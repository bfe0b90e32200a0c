use Rattle.std.proofs.Common.{sym, ◌∙◌, option_map}
use Rattle.wm_names.specs.Paths.{components}
use Rattle.wm_expr.specs.Globs.{parts_of}
use Rattle.wm_expr.proofs.DeepRuns.{parts_differ, parts_end, parts_star}
use Rattle.wm_expr.proofs.pattern.fits.Goals as goal

pub returns-in-Star : goal.returns-in-Star
returns-in-Star c =
    c.fits_behind_a_run.ensures
    ∙ sym (parts_star (components c.args.pattern.now) (components c.args.text.now) (components c.in-Star.behind.now) (parts_of (option_map (λ s. s.now) c.in-Star.stands)) (sym c.in-Star.ensures))

pub returns-in-Done : goal.returns-in-Done
returns-in-Done c = sym (parts_end (components c.args.pattern.now) (components c.args.text.now) (sym c.in-Done.ensures))

pub returns-in-Mismatch : goal.returns-in-Mismatch
returns-in-Mismatch c = sym (parts_differ (components c.args.pattern.now) (components c.args.text.now) (sym c.in-Mismatch.ensures))
