use Rattle.std.proofs.Common.{◌≡◌, length, option_map}
use Rattle.wm_names.specs.Paths.{components}
use Rattle.wm_expr.specs.Globs.{until_deep, parts_of}
use Rattle.wm_expr.proofs.pattern.up_to_deep.Given as goal

abbrev pub invariant-loop-rest : goal.invariant-loop-rest
invariant-loop-rest l =
    until_deep (parts_of (option_map (λ s. s.now) l.rest)) (parts_of (option_map (λ s. s.now) l.left)) ≡ until_deep (components l.pattern) (parts_of (option_map (λ s. s.now) l.text))

abbrev pub decreases-loop-rest : goal.decreases-loop-rest
decreases-loop-rest l = length (parts_of (option_map (λ s. s.now) l.rest))
