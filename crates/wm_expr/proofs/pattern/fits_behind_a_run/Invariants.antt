use Rattle.std.proofs.Common.{◌≡◌, ◌+◌, length, option_map}
use Rattle.wm_names.specs.Paths.{components}
use Rattle.wm_expr.specs.Globs.{parts_of}
use Rattle.wm_expr.specs.Patterns.{behind_a_run, fits_components}
use Rattle.wm_expr.proofs.pattern.fits_behind_a_run.Given as goal

abbrev pub invariant-loop-behind : goal.invariant-loop-behind
invariant-loop-behind l =
    behind_a_run (fits_components (components l.rest)) (parts_of (option_map (λ s. s.now) l.left)) ≡ behind_a_run (fits_components (components l.pattern)) (parts_of (option_map (λ s. s.now) l.text))

abbrev pub decreases-loop-behind : goal.decreases-loop-behind
decreases-loop-behind l = length (components l.rest) + length (parts_of (option_map (λ s. s.now) l.left))
