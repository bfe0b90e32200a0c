use Rattle.std.proofs.Common.{[], ◌∷◌, None, sym, subst, arith}
use Rattle.std.proofs.lemmas.Iterator.Adapters.{YieldsList-from_vec}
use Rattle.std.proofs.lemmas.Iterator.Consumers.{YieldsList-turn}
use Rattle.std.specs.Prelude.{length}
use Rattle.wm_groupcommit.specs.Books.{Right}
use Rattle.wm_groupcommit.specs.LockedState.{HaveGiven, deliveries_of, delivery_of}
use Rattle.wm_groupcommit.proofs.Answering.{AllRight-get}
use Rattle.wm_groupcommit.proofs.Giving.{deliveries_of-push, given_more, given_none}
use Rattle.wm_groupcommit.proofs.locked.deliver_all.Goals as goal

pub deliver-requires-clause-right : goal.deliver-requires-clause-right
deliver-requires-clause-right g c =
    let l = c.loop-answer in
    let all = c.args.answers.items in
    let given = c.into_iter-answer-iterator.ensures.into_iter_gives in
    let road = YieldsList-from_vec {s = c.into_iter-answer-iterator.result} all given.0 (omega (arith, given.1, c.args.answers.ok.0)) in
    let turn = YieldsList-turn road l.yielded l.answer-iterator l.yielded_by c.next.result c.next.new.self c.in-Some.answer c.in-Some.is c.next.ensures.steps in
    let base = c.args.book.now.base in
    let list = c.args.book.now.list in
    subst (Right base list) (sym turn.1) (AllRight-get base list all (length l.yielded) c.in-Some.answer turn.0 c.requires.right)

pub loop-answer-init : goal.loop-answer-init
loop-answer-init g c = record { later = c.requires.later; numbered = c.requires.numbered; given = given_none 0 c.args.ends.now.items }

pub loop-answer-preserved : goal.loop-answer-preserved
loop-answer-preserved g c =
    let l = c.loop-answer in
    let base = c.args.book.now.base in
    let list = c.args.book.now.list in
    let x = c.in-Some.answer in
    let old = c.args.ends.now.items in
    let new = c.deliver.new.ends.items in
    record {
      later = c.deliver.ensures.later;
      numbered = c.deliver.ensures.numbered;
      given = subst (λ ds. HaveGiven 0 ds old new) (sym (deliveries_of-push base list l.yielded x)) (given_more 0 (deliveries_of base list l.yielded) (delivery_of base list None x ∷ []) old l.ends.items new l.invariant.given c.deliver.ensures.given);
    }
