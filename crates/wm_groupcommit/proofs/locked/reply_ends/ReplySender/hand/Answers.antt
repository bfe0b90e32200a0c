use Rattle.std.proofs.Common.{◌≡◌, Some, sym, subst}
use Rattle.wm_groupcommit.specs.ReplyQueues.{IsLater, base_of, list_of}
use Rattle.wm_groupcommit.specs.declared.locked.deliveries.ReplyView.{ReplyView}
use Rattle.wm_groupcommit.proofs.Delivering.{drops, gives, gives_behind}
use Rattle.wm_groupcommit.proofs.locked.reply_ends.ReplySender.hand.Goals as goal

pub force_push_as-untaken-requires-clause-push : goal.force_push_as-untaken-requires-clause-push
force_push_as-untaken-requires-clause-push g c =
    let x = c.args.delivery in
    let later = subst (λ v. IsLater v (base_of x) (list_of x)) (sym c.self.view_is) c.requires.later in
    let own = subst (λ (v : ReplyView). v.seat ≡ Some x.answer.call.seat) (sym c.self.view_is) c.requires.own in
    let push = gives _ _ _ x c.self.invariant.1 later c.requires.right own c.requires.shown in
    (push, gives_behind _ _ _ x push)

pub force_push_as-untaken-requires-clause-pop : goal.force_push_as-untaken-requires-clause-pop
force_push_as-untaken-requires-clause-pop g c = drops _ _ _
