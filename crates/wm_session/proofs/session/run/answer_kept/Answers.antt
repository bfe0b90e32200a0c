use Rattle.std.proofs.Common.{ap}
use Rattle.std.proofs.lemmas.Result.{IfOk-weaker}
use Rattle.wm_session.specs.session.Stands.{standing}
use Rattle.wm_session.proofs.lemmas.session.LongLines.{no_memory, untold_no_memory}
use Rattle.wm_session.proofs.lemmas.session.RunLemmas.{on_err}
use Rattle.wm_session.proofs.session.run.answer_kept.Goals as goal

pub returns-clause-served : goal.returns-clause-served
returns-clause-served g c =
    let old = standing g.F.OwnFront.front_state c.args.session.now in
    let new = standing g.F.OwnFront.front_state c.line.new.self in
    IfOk-weaker c.answer_no_memory.result _ _ (λ n told. no_memory old new c.args.moment n c.args.line.now _ _ (ap (standing g.F.OwnFront.front_state) c.in-Err.ensures.err.1) told.0 told.1) c.answer_no_memory.ensures.told

pub returns-clause-untold : goal.returns-clause-untold
returns-clause-untold g c =
    on_err c.answer_no_memory.result (untold_no_memory (standing g.F.OwnFront.front_state c.args.session.now) (standing g.F.OwnFront.front_state c.line.new.self) c.args.moment c.args.line.now (ap (standing g.F.OwnFront.front_state) c.in-Err.ensures.err.1))
