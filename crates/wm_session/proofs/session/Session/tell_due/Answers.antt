use Rattle.std.proofs.Common.{◌∙◌, [], true, false, sym, subst, rules}
use Rattle.wm_session.proofs.lemmas.session.TellingLemmas.{failed, went}
use Rattle.wm_session.specs.session.Tellings.{TellsUpTo}
use Rattle.wm_session.proofs.lemmas.session.DueLemmas.{all_exactly, one_more}
use Rattle.wm_session.proofs.session.Session.tell_due.Goals as goal
use Rattle.wm_session.proofs.session.Session.tell_due.Goals.{then-is_err, else-is_err}

pub loop-place-preserved : goal.loop-place-preserved
loop-place-preserved g c =
    let so_far = c.loop-place.invariant in (
      elim c.if-is_err.branch [
        | then-is_err w ↦ rw w.is_whole-is (one_more g.F.Front.met _ _ _ _ _ false _ _ _ _ _ _ so_far.0 (failed c.tell_at.result (sym c.is_err.ensures.value ∙ w.if-is_err.true) c.tell_at.ensures.err))
        | else-is_err w ↦ rw w.is_whole-is (one_more g.F.Front.met _ _ _ _ _ true _ _ _ _ _ _ so_far.0 (went c.tell_at.result (sym c.is_err.ensures.value ∙ w.if-is_err.false) c.tell_at.ensures.ok))
      ],
      so_far.1,
      c.tell_at.ensures.many ∙ so_far.2,
      g.met.F.Front.goes_on _ _ _ [] [] so_far.3 c.tell_at.ensures.later,
    )

pub returns-clause-own : goal.returns-clause-own
returns-clause-own g c = λ state own.
    let so_far = c.loop-place.invariant in
    all_exactly g.F.Front.met state own c.args.self.now.front c.args.self.now.subscriptions c.args.out.now.items c.loop-place.is_whole c.loop-place.self.front c.loop-place.self.subscriptions c.loop-place.out.items
    (subst (λ n. TellsUpTo g.F.Front.met c.args.self.now.front c.args.self.now.subscriptions c.args.out.now.items n c.loop-place.is_whole c.loop-place.self.front c.loop-place.self.subscriptions c.loop-place.out.items) (search rules) so_far.0)
