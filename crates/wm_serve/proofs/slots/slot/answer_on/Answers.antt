use Rattle.wm_serve.proofs.Sent.{on_ok}
use Rattle.wm_serve.proofs.slots.slot.answer_on.Goals as goal

pub returns-then-take_store_failure-clause-answered : goal.returns-then-take_store_failure-clause-answered
returns-then-take_store_failure-clause-answered g c =
    let ended = c.drop_ended.new.session in
    on_ok c.answer-sent.result c.answer-sent.ensures
    (λ sends. (ended.front, c.answer-sent.new.self.session.front, ended.subscriptions, c.second.result, (c.drop_ended.ensures.subscriptions, c.drop_ended.ensures.kept), sends, c.take_store_failure.ensures.1))

pub returns-else-take_store_failure-clause-answered : goal.returns-else-take_store_failure-clause-answered
returns-else-take_store_failure-clause-answered g c =
    let ended = c.drop_ended.new.session in
    on_ok c.answer-sent.result c.answer-sent.ensures
    (λ sends. (ended.front, c.answer-sent.new.self.session.front, ended.subscriptions, c.second.result, (c.drop_ended.ensures.subscriptions, c.drop_ended.ensures.kept), sends, c.take_store_failure.ensures.1))
