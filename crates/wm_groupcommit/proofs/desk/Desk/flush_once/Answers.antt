use Rattle.std.proofs.Common.{◌<◌, ◌⊎◌, ◌++◌, length, sym, ap, ◌∙◌, subst}
use Rattle.wm_groupcommit.specs.Seats.{FoundNone, popped_calls}
use Rattle.wm_groupcommit.proofs.desk.Desk.flush_once.Goals as goal

pub returns-clause-popped : goal.returns-clause-popped
returns-clause-popped g c = ap (λ v. v.popped) c.in-Ok-pop.ensures.popped ∙ ap (λ xs. popped_calls c.args.flusher.now ++ xs) (sym c.answer.ensures.taken)

pub returns-clause-some : goal.returns-clause-some
returns-clause-some g c = subst (λ xs. (0 < length xs) ⊎ FoundNone c.args.flusher.now) (sym c.answer.ensures.taken) c.in-Ok-pop.ensures.some
