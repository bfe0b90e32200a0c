use Rattle.std.proofs.Common.{◌≡◌, ◌+◌, length}
use Rattle.wm_expr.specs.Patterns.{behind_a_run, fits_component}
use Rattle.wm_expr.proofs.component.fits_behind_a_run.Given as goal

abbrev pub invariant-loop-behind : goal.invariant-loop-behind
invariant-loop-behind l = behind_a_run (fits_component l.rest) l.left ≡ behind_a_run (fits_component l.pattern) l.text

abbrev pub decreases-loop-behind : goal.decreases-loop-behind
decreases-loop-behind l = length l.rest + length l.left
