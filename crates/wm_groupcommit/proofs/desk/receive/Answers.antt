use Rattle.std.proofs.Common.{◌≡◌, subst, sym}
use Rattle.std.proofs.lemmas.Result.{IfOk-weaker, IfErr-weaker}
use Rattle.wm_disk.specs.declared.refusal.Refusal.{Refusal}
use Rattle.wm_registry.specs.declared.reply.Reply.{Reply}
use Rattle.wm_groupcommit.specs.declared.queued.Answer.{Answer}
use Rattle.wm_registry.specs.Roots.{State}
use Rattle.wm_groupcommit.specs.Books.{Right}
use Rattle.wm_groupcommit.specs.Receipts.{ReceiptState}
use Rattle.wm_groupcommit.specs.Submits.{Settled, Declined, Submitted, Turned}
use Rattle.wm_groupcommit.proofs.Settling.{submitted, taken_right, turned}
use Rattle.wm_groupcommit.proofs.desk.receive.Goals as goal

pub settle-requires : goal.settle-requires
settle-requires g c =
    let new = c.wait_for-delivery.new.replies in
    record {
      right = subst (λ (a : Answer). (base : State) × Right base new.list a) (sym c.answer.ensures) (taken_right c.args.replies.now new c.wait_for-delivery.result c.wait_for-delivery.ensures);
    }

pub returns-clause-ok : goal.returns-clause-ok
returns-clause-ok g c =
    let old = c.args.replies.now in
    let new = c.wait_for-delivery.new.replies in
    let call = c.args.call in
    let seen = c.args.seen.now in
    let now = c.settle.new.seen in
    let told = c.wait_for-delivery.result in
    IfOk-weaker c.settle.result (λ (r : Reply × ReceiptState). Settled seen now new.list call c.answer.result r.0 r.1) (λ (r : Reply × ReceiptState). Submitted old new seen now call r.0 r.1)
    (λ r h. submitted old new told seen now call r.0 r.1 c.wait_for-delivery.ensures (subst (λ (a : Answer). Settled seen now new.list call a r.0 r.1) c.answer.ensures h)) c.settle.ensures.ok

pub returns-clause-err : goal.returns-clause-err
returns-clause-err g c =
    let old = c.args.replies.now in
    let new = c.wait_for-delivery.new.replies in
    let call = c.args.call in
    let seen = c.args.seen.now in
    let now = c.settle.new.seen in
    let told = c.wait_for-delivery.result in
    IfErr-weaker c.settle.result (λ (e : Refusal). (now ≡ seen) × Declined seen call c.answer.result e) (λ (e : Refusal). (now ≡ seen) × Turned old new seen call e)
    (λ e h. (h.0, turned old new told seen call e c.wait_for-delivery.ensures (subst (λ (a : Answer). Declined seen call a e) c.answer.ensures h.1))) c.settle.ensures.err
