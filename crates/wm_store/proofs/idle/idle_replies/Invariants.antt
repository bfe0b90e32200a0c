use Rattle.std.proofs.Common.{◌≡◌, vec_len}
use Rattle.wm_store.specs.UnderWay.{AreIdle}
use Rattle.wm_store.proofs.idle.idle_replies.Given as goal

abbrev pub invariant-loop-command : goal.invariant-loop-command
invariant-loop-command l = (vec_len l.replies ≡ l.command-index) × AreIdle l.fn.registry l.fn.commands l.replies
