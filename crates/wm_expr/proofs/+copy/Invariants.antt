use Rattle.std.proofs.Common.{◌≡◌, map, take}
use Rattle.wm_expr.specs.Views.{term}
use Rattle.wm_expr.proofs.+copy.Given as goal

abbrev pub invariant-copying::copied-loop-part : goal.invariant-copying::copied-loop-part
invariant-copying::copied-loop-part l = map term l.copies.items ≡ map term (take l.part-index l.parts)
