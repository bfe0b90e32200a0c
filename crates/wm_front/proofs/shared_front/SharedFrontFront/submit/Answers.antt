use Rattle.std.proofs.Common.{inl, inr, refl, sym, subst}
use Rattle.wm_front.specs.MetShared.{SharedKnown}
use Rattle.wm_front.specs.SharedLaws.{keeps_same}
use Rattle.wm_session.specs.session.Faults.{state_or}
use Rattle.wm_session.specs.session.Sessions.{state_after_command}
use Rattle.wm_front.specs.Commands.{KeepsSeat}
use Rattle.wm_front.proofs.Looking.{sat_keeps}
use Rattle.wm_front.proofs.Submitting.{begin_met, is_plain, submitted}
use Rattle.wm_front.proofs.shared_front.SharedFrontFront.submit.Goals as goal

pub returns-in-Begin-clause-met : goal.returns-in-Begin-clause-met
returns-in-Begin-clause-met g c =
    let a : SharedKnown = record { seat = c.args.self.now.seat; viewers = c.args.self.now.viewers } in
    let b : SharedKnown = record { seat = c.look_followed-looked.new.seat; viewers = c.args.self.now.viewers } in
    let has = g.H.Roots.has c.args.self.now.roots.now in
    let w = begin_met has (g.H.Roots.woken c.args.self.now.roots.now) (g.H.Roots.followed c.args.self.now.roots.now) a b c.args.command c.look_followed-looked.result c.begin_refused.result c.in-Begin.is refl c.look_followed-looked.ensures.keeps c.look_followed-looked.ensures.unsent c.look_followed-looked.ensures.looked c.look_followed-looked.ensures.refused c.begin_refused.ensures in
    record { way = w.way; found = w.found; at = w.by (state_or w.way (state_after_command w.found c.args.command) w.found); reply_is = w.reply_is }

pub returns-in-Begin-clause-later : goal.returns-in-Begin-clause-later
returns-in-Begin-clause-later g c = c.look_followed-looked.ensures.keeps

pub returns-clause-met : goal.returns-clause-met
returns-clause-met g c =
    let a : SharedKnown = record { seat = c.args.self.now.seat; viewers = c.args.self.now.viewers } in
    let b : SharedKnown = record { seat = c.submit-reply.new.self; viewers = c.args.self.now.viewers } in
    let has = g.H.Roots.has c.args.self.now.roots.now in
    let w = submitted has (g.H.Roots.woken c.args.self.now.roots.now) (g.H.Roots.followed c.args.self.now.roots.now) a b c.args.command c.submit-reply.result.0 c.submit-reply.result.1 (is_plain c.args.command c.in_default.not-Begin) c.follow.ensures refl c.submit-reply.ensures in
    record { way = w.way; found = w.found; at = w.by (state_or w.way (state_after_command w.found c.args.command) w.found); reply_is = w.reply_is }

pub returns-clause-later : goal.returns-clause-later
returns-clause-later g c =
    elim c.submit-reply.ensures [
      | inl x ↦ subst (λ o. KeepsSeat c.args.self.now.seat o) (sym x.0) (keeps_same c.args.self.now.seat)
      | inr x ↦ sat_keeps c.args.self.now.seat c.submit-reply.new.self x.0 x.1 x.2 x.3 x.4
    ]
