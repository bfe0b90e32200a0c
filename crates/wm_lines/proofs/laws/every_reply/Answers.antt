use Rattle.wm_lines.proofs.ReplyLines.{refusals_stand_out}
use Rattle.wm_lines.proofs.laws.every_reply.Goals as goal

pub returns : goal.returns
returns c = refusals_stand_out
