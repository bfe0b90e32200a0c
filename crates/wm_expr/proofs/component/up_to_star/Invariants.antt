use Rattle.std.proofs.Common.{◌≡◌, ◌≤◌, length, drop}
use Rattle.wm_expr.specs.Globs.{until_star}
use Rattle.wm_expr.proofs.component.up_to_star.Given as goal

abbrev pub invariant-loop-i : goal.invariant-loop-i
invariant-loop-i l = record { inside : l.i ≤ length l.text; same : until_star (drop l.i l.pattern) (drop l.i l.text) ≡ until_star l.pattern l.text }
