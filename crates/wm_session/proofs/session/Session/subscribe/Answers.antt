use Rattle.std.proofs.Common.{◌≡◌, ◌∙◌, ◌++◌, refl, sym, ap, rules}
use Rattle.std.proofs.lemmas.Result.{err_from_is_err_and}
use Rattle.wm_lines.specs.Replies.{line_text, subscribe_reply}
use Rattle.wm_subs.specs.SessionLists.{with_subscription}
use Rattle.wm_session.specs.session.Fronts.{Looks, start_answer}
use Rattle.wm_session.specs.session.Sessions.{subscribe_met, subscribed_by, view_of}
use Rattle.wm_session.specs.session.Watched.{clock_answer}
use Rattle.wm_session.proofs.lemmas.session.SessionLemmas.{looked_memory, ran_out, subscribed_done, subscribed_full, subscribed_no}
use Rattle.wm_session.proofs.session.Session.subscribe.Goals as goal

pub returns-in_err-clock-clause-met : goal.returns-in_err-clock-clause-met
returns-in_err-clock-clause-met g c =
    let root = c.args.root in
    let p = err_from_is_err_and c.from_residual.result c.from_residual.ensures.1 in
    rw (p.1, p.2) (subscribed_no g.F.Front.met c.args.self.now.front c.start.new.self root c.args.name c.args.inquiry c.args.self.now.subscriptions
    (λ s. with_subscription (subscribed_by root (view_of s root) c.args.name c.args.inquiry) c.args.self.now.subscriptions)
    c.in_err-clock.field-0.0 c.args.out.now.items c.args.out.now.items c.args.self.now.subscriptions c.in_err-clock.ensures.met refl)

pub returns-then-not-has_room-clause-met : goal.returns-then-not-has_room-clause-met
returns-then-not-has_room-clause-met g c =
    let root = c.args.root in
    subscribed_full g.F.Front.met c.args.self.now.front c.start.new.self root c.args.name c.args.inquiry c.args.self.now.subscriptions
    (λ s. with_subscription (subscribed_by root (view_of s root) c.args.name c.args.inquiry) c.args.self.now.subscriptions)
    (c.in_ok-clock.clock, c.in_ok-clock.since) c.args.out.now.items c.args.out.now.items c.args.self.now.subscriptions c.in_ok-clock.ensures.met (sym c.if-not-has_room.ensures) refl

-- memory ran out for the line, or for the subscription
pub returns-in_err-line-clause-met : goal.returns-in_err-line-clause-met
returns-in_err-line-clause-met g c =
    let root = c.args.root in
    let old = c.args.self.now.front in
    let new = c.start.new.self in
    let m = c.in_ok-clock.ensures.met in
    let out = looked_memory g.F.Front.met old new (Looks root) (λ s. start_answer (view_of s root) c.args.inquiry.since) (c.in_ok-clock.clock, c.in_ok-clock.since) m (λ s. g.met.F.Front.runs_out old new (Looks root) s refl) in
    let p = err_from_is_err_and c.from_residual-in_err-line.result c.from_residual-in_err-line.ensures.1 in
    rw (p.1, p.2) (
      ran_out g.F.Front.met old new (Looks root) m.found (λ s. subscribe_met s c.args.self.now.subscriptions root c.args.name (clock_answer (view_of s root))) c.args.out.now.items c.subscribe_line.new.out.items out c.in_err-line.ensures.items,
      tt,
    )

pub returns-in_err-begin-clause-met : goal.returns-in_err-begin-clause-met
returns-in_err-begin-clause-met g c =
    let root = c.args.root in
    let old = c.args.self.now.front in
    let new = c.start.new.self in
    let m = c.in_ok-clock.ensures.met in
    let out = looked_memory g.F.Front.met old new (Looks root) (λ s. start_answer (view_of s root) c.args.inquiry.since) (c.in_ok-clock.clock, c.in_ok-clock.since) m (λ s. g.met.F.Front.runs_out old new (Looks root) s refl) in
    let p = err_from_is_err_and c.from_residual-in_err-begin.result c.from_residual-in_err-begin.ensures.1 in
    rw (p.1, p.2, c.in_err-begin.ensures.refused, c.in_err-begin.ensures.front) (
      ran_out g.F.Front.met old new (Looks root) m.found (λ s. subscribe_met s c.args.self.now.subscriptions root c.args.name (clock_answer (view_of s root))) c.args.out.now.items c.begin.new.out.items out
          (c.in_err-begin.ensures.err.1 ∙ c.in_ok-line.ensures.items),
      tt,
    )

pub returns-clause-met : goal.returns-clause-met
returns-clause-met g c =
    let root = c.args.root in
    let old = c.args.self.now.front in
    let put : c.begin.new.out.items ≡ c.args.out.now.items ++ line_text (subscribe_reply c.in_ok-clock.clock c.args.name) = search rules in
    rw c.in_ok-begin.ensures.front (subscribed_done g.F.Front.met old c.start.new.self root c.args.name c.args.inquiry c.args.self.now.subscriptions c.begin.new.self.subscriptions c.in_ok-clock.clock c.in_ok-clock.since
    c.args.out.now.items c.begin.new.out.items c.in_ok-clock.ensures.met (sym c.if-not-has_room.ensures)
    (λ s of is. c.in_ok-begin.ensures.ok ∙ ap (λ x. with_subscription x c.args.self.now.subscriptions) (c.subscribed-subscribed.ensures (view_of s root) of is)) put)
