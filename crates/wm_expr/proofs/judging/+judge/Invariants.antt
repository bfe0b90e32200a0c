use Rattle.std.proofs.Common.{◌≡◌, ◌+◌, ◌*◌, drop}
use Rattle.serde_json.specs.View.{items_view}
use Rattle.wm_expr.specs.Within.{left_by_all, terms_within}
use Rattle.wm_expr.proofs.judging.+judge.Given as goal

abbrev pub invariant-judge_terms-loop-part : goal.invariant-judge_terms-loop-part
invariant-judge_terms-loop-part l =
    left_by_all l.left (terms_within l.levels (items_view (drop l.part-index l.parts))) ≡ left_by_all l.room (terms_within l.levels (items_view l.parts))

-- the levels that are left, and then how far a level has been entered
abbrev pub decreases-judge_term : goal.decreases-judge_term
decreases-judge_term l = 4 * l.levels

abbrev pub decreases-judge_terms : goal.decreases-judge_terms
decreases-judge_terms l = 4 * l.levels + 1

abbrev pub decreases-judge_not : goal.decreases-judge_not
decreases-judge_not l = 4 * l.levels + 1

abbrev pub decreases-judge_word : goal.decreases-judge_word
decreases-judge_word l = 4 * l.levels + 2

abbrev pub decreases-judge_list : goal.decreases-judge_list
decreases-judge_list l = 4 * l.levels + 3
