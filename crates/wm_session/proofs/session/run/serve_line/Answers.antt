use Rattle.std.proofs.Common.{refl, subst}
use Rattle.wm_session.specs.session.Asked.{asked_by}
use Rattle.wm_session.specs.session.Stands.{standing}
use Rattle.wm_session.proofs.lemmas.session.LongLines.{no_memory, same_request, stands_kept, untold_kept, untold_no_memory}
use Rattle.wm_session.proofs.lemmas.session.RunLemmas.{on_err}
use Rattle.wm_session.proofs.session.run.serve_line.Goals as goal

pub returns-in_ok-faults-in-Kept-clause-served : goal.returns-in_ok-faults-in-Kept-clause-served
returns-in_ok-faults-in-Kept-clause-served g c = λ whole stands.
    stands_kept _ _ _ _ c.args.line.now whole _ _ (rw c.in-Kept.is at stands) c.in_ok-faults-in-Kept.ensures.served

pub returns-in_err-faults-in-Kept-clause-untold : goal.returns-in_err-faults-in-Kept-clause-untold
returns-in_err-faults-in-Kept-clause-untold g c =
    on_err c.from_residual.result (λ whole stands. untold_kept _ _ _ c.args.line.now whole (rw c.in-Kept.is at stands) c.in_err-faults-in-Kept.ensures.untold)

pub returns-in_ok-faults-in-Kept-clause-asked : goal.returns-in_ok-faults-in-Kept-clause-asked
returns-in_ok-faults-in-Kept-clause-asked g c = λ whole stands.
    subst (λ request. g.F.Front.leads_to c.args.session.now.front (asked_by request) c.answer_kept.new.session.front) (same_request c.args.line.now whole (rw c.in-Kept.is at stands)) c.answer_kept.ensures.later

pub returns-in_err-faults-in-Kept-clause-asked : goal.returns-in_err-faults-in-Kept-clause-asked
returns-in_err-faults-in-Kept-clause-asked g c = λ whole stands.
    subst (λ request. g.F.Front.leads_to c.args.session.now.front (asked_by request) c.answer_kept.new.session.front) (same_request c.args.line.now whole (rw c.in-Kept.is at stands)) c.answer_kept.ensures.later

pub returns-in_ok-faults-in_default-clause-served : goal.returns-in_ok-faults-in_default-clause-served
returns-in_ok-faults-in_default-clause-served g c =
    let told = c.in_ok-faults-in_default.ensures.told in
    let here = standing g.F.OwnFront.front_state c.args.session.now in
    λ whole stands. no_memory here here c.args.moment _ whole _ _ refl told.0 told.1

pub returns-in_err-faults-in_default-clause-untold : goal.returns-in_err-faults-in_default-clause-untold
returns-in_err-faults-in_default-clause-untold g c =
    let here = standing g.F.OwnFront.front_state c.args.session.now in
    on_err c.from_residual-in_err-faults-in_default.result (λ whole stands. untold_no_memory here here c.args.moment whole refl)
