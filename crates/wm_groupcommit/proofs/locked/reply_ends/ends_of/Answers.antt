use Rattle.std.proofs.Common.{sym, subst}
use Rattle.crossbeam_queue.specs.Fifo.{Forks}
use Rattle.wm_groupcommit.specs.ReplyQueues.{Replying, end_to, newcomer}
use Rattle.wm_groupcommit.proofs.Delivering.{begins, forks}
use Rattle.wm_groupcommit.proofs.locked.reply_ends.ends_of.Goals as goal

pub ruled-requires-clause-rule : goal.ruled-requires-clause-rule
ruled-requires-clause-rule g c = begins

pub another-mine-requires-clause-rule : goal.another-mine-requires-clause-rule
another-mine-requires-clause-rule g c =
    let n = g.N.Numbered.number in
    let port = c.in_ok-queue.pass.id in
    let made = c.in_ok-queue.ensures in
    subst (λ v. Forks Replying port v (end_to n) (newcomer n)) (sym made.3) (forks n port)
