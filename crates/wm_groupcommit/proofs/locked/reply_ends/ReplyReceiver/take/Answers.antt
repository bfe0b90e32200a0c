use Rattle.wm_groupcommit.proofs.Delivering.{gets}
use Rattle.wm_groupcommit.proofs.locked.reply_ends.ReplyReceiver.take.Goals as goal

pub pop_as-requires-clause-rule : goal.pop_as-requires-clause-rule
pop_as-requires-clause-rule g c = (gets _ _, λ items views h at. (views, _, h, at))
