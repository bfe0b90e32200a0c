use Rattle.std.proofs.Common.{refl}
use Rattle.wm_front.specs.MetShared.{SharedKnown}
use Rattle.std.proofs.Common.{◌∙◌}
use Rattle.wm_front.proofs.RootCalls.{due_found, due_refused}
use Rattle.wm_front.proofs.shared_front.SharedFrontFront.due.Goals as goal

pub returns-in-Err-clause-met : goal.returns-in-Err-clause-met
returns-in-Err-clause-met g c =
    let a : SharedKnown = record { seat = c.args.self.now.seat; viewers = c.args.self.now.viewers } in
    let b : SharedKnown = record { seat = c.find_root.new.seat; viewers = c.args.self.now.viewers } in
    let has = g.H.Roots.has c.args.self.now.roots.now in
    let w = due_refused has c.args.subscribed.now.root a b c.args.subscribed.now c.in-Err.refusal c.find_root.ensures.keeps refl c.in-Err.ensures.refused in
    record { way = w.way; found = w.found; at = w.by; is = c.due_unless.ensures ∙ w.is }

pub returns-in-Err-clause-later : goal.returns-in-Err-clause-later
returns-in-Err-clause-later g c = c.find_root.ensures.keeps

pub returns-clause-met : goal.returns-clause-met
returns-clause-met g c =
    let a : SharedKnown = record { seat = c.args.self.now.seat; viewers = c.args.self.now.viewers } in
    let b : SharedKnown = record { seat = c.find_root.new.seat; viewers = c.due-due.new.self } in
    let has = g.H.Roots.has c.args.self.now.roots.now in
    let number = c.deref.result.now.number in
    let root : has c.args.subscribed.now.root number = rw c.deref.ensures c.in-Ok.ensures.has in
    let w = due_found has c.args.subscribed.now.root number a b c.args.subscribed.now c.due-due.result c.every_line.ensures.due root c.find_root.ensures.keeps c.due-due.ensures in
    record { way = w.way; found = w.found; at = w.by; is = w.is }

pub returns-clause-later : goal.returns-clause-later
returns-clause-later g c = c.find_root.ensures.keeps
