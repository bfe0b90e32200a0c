use Rattle.wm_groupcommit.proofs.Merging.{admits}
use Rattle.wm_groupcommit.proofs.locked.call_queue.new_pass.Goals as goal

pub pass-requires : goal.pass-requires
pass-requires c = admits
