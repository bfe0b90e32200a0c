use Rattle.std.proofs.Common.{◌≡◌}
use Rattle.wm_groupcommit.proofs.desk.look_for.Given as goal

abbrev pub invariant-loop : goal.invariant-loop
invariant-loop g l = l.replies ≡ l.initial.replies
