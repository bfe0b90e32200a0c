use Rattle.std.proofs.Common.{◌-◌, List, length, take, drop, set, get_or, ap, ◌∙◌, arith}
use Rattle.std.proofs.lemmas.List.{get_or_default}
use Rattle.std.proofs.lemmas.List.Edits.{map_over_more}
use Rattle.wm_registry.specs.declared.reply.Reply.{Reply}
use Rattle.wm_registry.specs.declared.reply.Reply.TheVariants.{Changed}
use Rattle.wm_store.specs.UnderWay.{refused_for_memory}
use Rattle.wm_store.proofs.batch.refuse_from.Goals as goal

pub loop-reply-preserved : goal.loop-reply-preserved
loop-reply-preserved c =
    let xs : List Reply = take (length c.deref_mut.result.now - c.args.first) (drop c.args.first c.deref_mut.result.now) in
    let ys = c.loop-reply.reply-items in
    let i = c.loop-reply.reply-index in
    ap (λ (r : Reply). set ys i r) c.refuse_for_memory.ensures ∙ map_over_more refused_for_memory xs ys i (get_or ys i Changed) c.loop-reply-test.true c.loop-reply.invariant (get_or_default ys i Changed (get_or ys i Changed) (omega (arith, c.loop-reply.auto.reply-items, c.loop-reply-test.true)))
