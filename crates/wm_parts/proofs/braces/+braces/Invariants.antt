use Rattle.std.proofs.Common.{◌≡◌, ◌+◌, ◌*◌, drop}
use Rattle.serde_json.specs.View.{items_view}
use Rattle.wm_parts.specs.Braces.{first_braced}
use Rattle.wm_parts.proofs.braces.+braces.Given as goal

abbrev pub invariant-first_braced-loop-part : goal.invariant-first_braced-loop-part
invariant-first_braced-loop-part l =
    first_braced l.levels (items_view (drop l.part-index l.parts)) ≡ first_braced l.levels (items_view l.parts)

-- the levels that are left, and then how far a level has been entered
abbrev pub decreases-braced_term : goal.decreases-braced_term
decreases-braced_term l = 4 * l.levels

abbrev pub decreases-first_braced : goal.decreases-first_braced
decreases-first_braced l = 4 * l.levels + 1

abbrev pub decreases-braced_behind : goal.decreases-braced_behind
decreases-braced_behind l = 4 * l.levels + 2

abbrev pub decreases-braced_list : goal.decreases-braced_list
decreases-braced_list l = 4 * l.levels + 3
