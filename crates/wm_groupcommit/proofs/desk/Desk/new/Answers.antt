use Rattle.wm_groupcommit.proofs.Merging.{begins}
use Rattle.wm_groupcommit.proofs.desk.Desk.new.Goals as goal

pub with_rule-requires : goal.with_rule-requires
with_rule-requires g c = begins
