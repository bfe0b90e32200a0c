use Rattle.wm_serve.proofs.Sent.{on_ok}
use Rattle.wm_serve.proofs.slots.slot.send_due_on.Goals as goal

pub returns : goal.returns
returns g c =
    let ended = c.drop_ended.new.session in
    on_ok c.send_due.result c.send_due.ensures (λ sends. (ended.front, ended.subscriptions, (c.drop_ended.ensures.subscriptions, c.drop_ended.ensures.kept), sends))
