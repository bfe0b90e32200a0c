use Rattle.std.proofs.Common.{ap, get_or, set, ◌∙◌}
use Rattle.std.proofs.lemmas.List.Edits.{map_over_more}
use Rattle.wm_world.specs.Worlds.{without_answer}
use Rattle.wm_world.specs.declared.connection.Connection.{Connection}
use Rattle.wm_world.proofs.connection.lose_all.Goals as goal

pub loop-client-preserved : goal.loop-client-preserved
loop-client-preserved c =
    let ys = c.loop-client.client-items in
    let i = c.loop-client.client-index in
    let x : Connection = get_or ys i c.client-item.result in
    ap (λ (y : Connection). set ys i y) c.lose.ensures ∙ map_over_more without_answer c.deref_mut-client-items.result.now ys i x c.loop-client-test.true c.loop-client.invariant (ap (λ d. get_or ys i d) c.client-item.is)
