use Rattle.std.proofs.Common.{ap, ◌∙◌, ◌++◌, arith, cond, refl, rules}
use Rattle.wm_lines.specs.Replies.{clock_reply, floor_reply, line_text}
use Rattle.wm_session.specs.session.Faults.{Memory}
use Rattle.wm_session.specs.session.Fronts.{Changes, at_moment, moment_given}
use Rattle.wm_session.specs.session.Sessions.{operation_outcome}
use Rattle.wm_session.proofs.lemmas.session.SessionLemmas.{operation_done, operation_refused, told_so}
use Rattle.wm_session.proofs.session.Session.operate.Goals as goal

pub returns-in_err-try_reserve-clause-met : goal.returns-in_err-try_reserve-clause-met
returns-in_err-try_reserve-clause-met g c =
    let given = moment_given c.args.op in
    let s = g.met.F.Front.stands c.args.self.now.front (Changes c.args.root.now given given) refl in
    let outcome = operation_outcome s.0 c.args.root.now (at_moment given c.args.op) in (
      given,
      omega arith,
      record { way = Memory; found = s.0; at = s.1 outcome.accepts; written = search rules },
    )

pub returns-in-Ok-clause-met : goal.returns-in-Ok-clause-met
returns-in-Ok-clause-met g c =
    let p = c.in-Ok.progress in
    operation_done g.F.Front.met c.args.self.now.front c.operate.new.self c.args.root.now c.args.op p c.args.out.now.items _ c.in-Ok.ensures.met
    (c.put_progress.ensures.value
    ∙ ap (λ b. b ++ line_text (cond c.reports_floor-reports_floor.result (floor_reply p.floor) (clock_reply p.clock))) c.in_ok-try_reserve.ensures.items
    ∙ ap (λ b. c.args.out.now.items ++ line_text (cond b (floor_reply p.floor) (clock_reply p.clock))) c.reports_floor-reports_floor.ensures
    ∙ ap (λ d. c.args.out.now.items ++ line_text d) (told_so c.args.op p))

pub returns-in-Err-clause-met : goal.returns-in-Err-clause-met
returns-in-Err-clause-met g c =
    operation_refused g.F.Front.met c.args.self.now.front c.operate.new.self c.args.root.now c.args.op c.in-Err.refusal c.args.out.now.items _ c.in-Err.ensures.met c.in_ok-try_reserve.ensures.items
