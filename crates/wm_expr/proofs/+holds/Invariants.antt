use Rattle.std.proofs.Common.{◌≡◌, drop}
use Rattle.wm_expr.specs.Meanings.{all_hold, one_holds}
use Rattle.wm_expr.specs.Views.{terms}
use Rattle.wm_expr.proofs.+holds.Given as goal

abbrev pub invariant-meaning::all_hold-loop-part :
    goal.invariant-meaning::all_hold-loop-part
invariant-meaning::all_hold-loop-part l = all_hold (terms (drop l.part-index l.parts)) l.entry ≡ all_hold (terms l.parts) l.entry

abbrev pub invariant-meaning::one_holds-loop-part :
    goal.invariant-meaning::one_holds-loop-part
invariant-meaning::one_holds-loop-part l = one_holds (terms (drop l.part-index l.parts)) l.entry ≡ one_holds (terms l.parts) l.entry
