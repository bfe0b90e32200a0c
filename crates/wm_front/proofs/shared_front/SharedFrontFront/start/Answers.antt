use Rattle.std.proofs.Common.{refl}
use Rattle.wm_front.specs.MetShared.{SharedKnown}
use Rattle.std.proofs.Common.{◌∙◌}
use Rattle.wm_session.specs.session.Fronts.{start_answer}
use Rattle.wm_front.proofs.RootCalls.{looked_refused, start_found}
use Rattle.wm_front.proofs.Starting.{same_start}
use Rattle.wm_front.proofs.shared_front.SharedFrontFront.start.Goals as goal

pub returns-in-Err-clause-met : goal.returns-in-Err-clause-met
returns-in-Err-clause-met g c =
    let a : SharedKnown = record { seat = c.args.self.now.seat; viewers = c.args.self.now.viewers } in
    let b : SharedKnown = record { seat = c.find_root.new.seat; viewers = c.args.self.now.viewers } in
    let has = g.H.Roots.has c.args.self.now.roots.now in
    let w = looked_refused has c.args.root.now a b (λ v. start_answer v c.args.since.now) c.in-Err.refusal c.find_root.ensures.keeps refl refl c.in-Err.ensures.refused in
    record { way = w.way; found = w.found; at = w.by; is = w.is }

pub returns-in-Err-clause-later : goal.returns-in-Err-clause-later
returns-in-Err-clause-later g c = c.find_root.ensures.keeps

pub returns-clause-met : goal.returns-clause-met
returns-clause-met g c =
    let a : SharedKnown = record { seat = c.args.self.now.seat; viewers = c.args.self.now.viewers } in
    let b : SharedKnown = record { seat = c.find_root.new.seat; viewers = c.clock-clock.new.self } in
    let has = g.H.Roots.has c.args.self.now.roots.now in
    let number = c.deref.result.now.number in
    let root : has c.args.root.now number = rw c.deref.ensures c.in-Ok.ensures.has in
    let w = start_found has c.args.root.now number a b c.args.since.now c.since-since.result c.since-since.ensures.0 c.clock-clock.result root c.find_root.ensures.keeps (c.since-since.ensures.1 ∙ same_start c.args.since.now c.since-since.ensures.0) c.clock-clock.ensures in
    record { way = w.way; found = w.found; at = w.by; is = c.starting.ensures ∙ w.is }

pub returns-clause-later : goal.returns-clause-later
returns-clause-later g c = c.find_root.ensures.keeps
