use Rattle.std.proofs.Common.{◌≡◌, ◌<◌, ◌+◌, get_or, [], ◌∷◌, ◌++◌, length, sym, ap, ◌∙◌, arith, length-append, append_assoc}
use Rattle.std.proofs.lemmas.Iterator.Adapters.{YieldsList-from_vec}
use Rattle.std.proofs.lemmas.Iterator.Consumers.{YieldsList-turn}
use Rattle.wm_groupcommit.specs.Books.{accepted_calls, answer, answers_from, at_next, kept_if}
use Rattle.wm_groupcommit.proofs.Answering.{accepted_calls-push, at_after, at_after-push, at_kept, answers_from-push, at_next_most}
use Rattle.wm_groupcommit.proofs.book.answer_all.Goals as goal

pub loop-call-preserved : goal.loop-call-preserved
loop-call-preserved c =
    let l = c.loop-call in
    let all = c.args.calls.items in
    let given = c.into_iter-call-iterator.ensures.into_iter_gives in
    let road = YieldsList-from_vec {s = c.into_iter-call-iterator.result} all given.0 (omega (arith, given.1, c.args.calls.ok.0)) in
    let turn = YieldsList-turn road l.yielded l.call-iterator l.yielded_by c.next.result c.next.new.self c.in-Some.call c.in-Some.is c.next.ensures.steps in
    let x = c.in-Some.call in
    let rs = c.args.replies.now.items in
    let r = c.index-reply.result.now in
    let n = c.args.at in
    let less : length l.yielded < length rs = omega (arith, turn.0, c.requires.same) in
    let at : r ≡ get_or rs (length l.yielded) r = c.index-reply.ensures ∙ ap (λ k. get_or rs k r) l.invariant.next in
    let more = length-append l.yielded (x ∷ []) in
    let first = c.args.history.now.list in
    let kept = accepted_calls l.yielded rs in
    let last = kept_if x (get_or rs (length l.yielded) r) in
    let pushed : accepted_calls (l.yielded ++ x ∷ []) rs ≡ kept ++ last = accepted_calls-push l.yielded x rs r less in
    let counted : length (accepted_calls (l.yielded ++ x ∷ []) rs) ≡ length kept + length last = ap length pushed ∙ length-append kept last in
    let next : at_next l.at r ≡ l.at + length last = at_kept l.at x r ∙ ap (λ y. l.at + length (kept_if x y)) at in
    record {
      answers = c.push_reserved.ensures.items ∙ ap (λ xs. xs ++ answer x l.at r ∷ []) l.invariant.answers ∙ ap (λ k. answers_from n l.yielded rs ++ answer x k r ∷ []) l.invariant.at
          ∙ ap (λ y. answers_from n l.yielded rs ++ answer x (at_after n l.yielded rs) y ∷ []) at ∙ sym (answers_from-push n l.yielded x rs r less);
      at = c.next_at-at.ensures ∙ ap (λ k. at_next k r) l.invariant.at ∙ ap (λ y. at_next (at_after n l.yielded rs) y) at ∙ sym (at_after-push n l.yielded x rs r less);
      few = omega (arith, c.next_at-at.ensures, at_next_most l.at r, l.invariant.few, more);
      next = omega (arith, l.invariant.next, more);
      len = omega (arith, c.push_reserved.ensures.len, l.invariant.len, more);
      room = c.push_reserved.ensures.capacity ∙ l.invariant.room;
      list = c.record.ensures.list ∙ ap (λ y. l.history.list ++ kept_if x y) at ∙ ap (λ es. es ++ last) l.invariant.list ∙ append_assoc first kept last ∙ ap (λ k. first ++ k) (sym pushed);
      base = c.record.ensures.base ∙ l.invariant.base;
      count = omega (arith, c.next_at-at.ensures, next, l.invariant.count, counted);
    }
