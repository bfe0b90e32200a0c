use Rattle.std.proofs.Common.{ap, ◌∙◌, ◌++◌, rules}
use Rattle.wm_lines.specs.Replies.{clock_reply, line_text}
use Rattle.wm_session.specs.session.Fronts.{Looks}
use Rattle.wm_session.specs.session.Sessions.{question_met, view_of}
use Rattle.wm_session.specs.session.Watched.{clock_answer}
use Rattle.wm_session.proofs.lemmas.session.SessionLemmas.{asked_done, asked_no}
use Rattle.wm_session.proofs.session.Session.clock.Goals as goal

pub returns-in_err-try_reserve-clause-met : goal.returns-in_err-try_reserve-clause-met
returns-in_err-try_reserve-clause-met g c =
    let s = g.met.F.Front.stands c.args.self.now.front (Looks c.args.root.now) tt in
    let at = s.1 (question_met s.0 (clock_answer (view_of s.0 c.args.root.now)) clock_reply).accepts in search rules

pub returns-in-Ok-clause-met : goal.returns-in-Ok-clause-met
returns-in-Ok-clause-met g c =
    asked_done g.F.Front.met c.args.self.now.front c.clock.new.self (Looks c.args.root.now) (λ s. clock_answer (view_of s c.args.root.now)) clock_reply c.in-Ok.clock c.args.out.now.items _ c.in-Ok.ensures.met
    (c.put_clock.ensures.value ∙ ap (λ b. b ++ line_text (clock_reply c.in-Ok.clock)) c.in_ok-try_reserve.ensures.items)

pub returns-in-Err-clause-met : goal.returns-in-Err-clause-met
returns-in-Err-clause-met g c =
    asked_no g.F.Front.met c.args.self.now.front c.clock.new.self (Looks c.args.root.now) (λ s. clock_answer (view_of s c.args.root.now)) clock_reply c.in-Err.refusal c.args.out.now.items _ c.in-Err.ensures.met c.in_ok-try_reserve.ensures.items
