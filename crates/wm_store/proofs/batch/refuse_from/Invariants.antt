use Rattle.std.proofs.Common.{◌≡◌, ◌++◌, map, take, drop}
use Rattle.wm_store.specs.UnderWay.{refused_for_memory}
use Rattle.wm_store.proofs.batch.refuse_from.Given as goal

abbrev pub invariant-loop-reply : goal.invariant-loop-reply
invariant-loop-reply l = l.reply-items ≡ map refused_for_memory (take l.reply-index l.initial.reply-items) ++ drop l.reply-index l.initial.reply-items
