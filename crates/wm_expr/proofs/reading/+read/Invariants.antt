use Rattle.std.proofs.Common.{◌≡◌, ◌+◌, ◌*◌, drop, map}
use Rattle.serde_json.specs.View.{items_view}
use Rattle.wm_expr.specs.Readings.{each}
use Rattle.wm_expr.specs.Views.{term}
use Rattle.wm_expr.specs.Within.{read_within}
use Rattle.wm_expr.proofs.Each.{put_before}
use Rattle.wm_expr.proofs.reading.+read.Given as goal

abbrev pub invariant-read_terms-loop-part : goal.invariant-read_terms-loop-part
invariant-read_terms-loop-part l =
    each (read_within l.levels) (items_view l.parts) ≡ put_before (map term l.terms.items) (each (read_within l.levels) (items_view (drop l.part-index l.parts)))

-- the levels that are left, and then how far a level has been entered
abbrev pub decreases-read_term : goal.decreases-read_term
decreases-read_term l = 4 * l.levels

abbrev pub decreases-read_terms : goal.decreases-read_terms
decreases-read_terms l = 4 * l.levels + 1

abbrev pub decreases-read_not : goal.decreases-read_not
decreases-read_not l = 4 * l.levels + 1

abbrev pub decreases-read_word : goal.decreases-read_word
decreases-read_word l = 4 * l.levels + 2

abbrev pub decreases-read_list : goal.decreases-read_list
decreases-read_list l = 4 * l.levels + 3
