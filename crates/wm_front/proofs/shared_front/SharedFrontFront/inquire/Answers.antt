use Rattle.std.proofs.Common.{refl, rules}
use Rattle.wm_front.specs.MetShared.{SharedKnown}
use Rattle.wm_front.proofs.Inquiring.{asked_found, asked_refused}
use Rattle.wm_front.proofs.shared_front.SharedFrontFront.inquire.Goals as goal

pub returns-in-Err-clause-met : goal.returns-in-Err-clause-met
returns-in-Err-clause-met g c =
    let a : SharedKnown = record { seat = c.args.self.now.seat; viewers = c.args.self.now.viewers } in
    let b : SharedKnown = record { seat = c.find_root.new.seat; viewers = c.args.self.now.viewers } in
    let has = g.H.Roots.has c.args.self.now.roots.now in
    let w = asked_refused has c.args.root.now c.args.inquiry a b c.args.out.now.items c.args.out.now.items c.in-Err.refusal c.find_root.ensures.keeps refl refl c.in-Err.ensures.refused in
    record { way = w.way; found = w.found; at = w.by; written = w.written }

pub returns-in-Err-clause-room : goal.returns-in-Err-clause-room
returns-in-Err-clause-room g c = search rules

pub returns-in-Err-clause-later : goal.returns-in-Err-clause-later
returns-in-Err-clause-later g c = c.find_root.ensures.keeps

pub returns-clause-met : goal.returns-clause-met
returns-clause-met g c =
    let a : SharedKnown = record { seat = c.args.self.now.seat; viewers = c.args.self.now.viewers } in
    let b : SharedKnown = record { seat = c.find_root.new.seat; viewers = c.inquire-answered.new.self } in
    let has = g.H.Roots.has c.args.self.now.roots.now in
    let number = c.deref.result.now.number in
    let root : has c.args.root.now number = rw c.deref.ensures c.in-Ok.ensures.has in
    let laws = c.every_line.ensures in
    let w = asked_found has c.args.root.now c.args.inquiry number a b c.args.out.now.items c.inquire-answered.new.out.items c.inquire-answered.result laws.answered laws.unready laws.no_place root c.find_root.ensures.keeps c.inquire-answered.ensures.err c.inquire-answered.ensures.met in
    record { way = w.way; found = w.found; at = w.by; written = w.written }

pub returns-clause-room : goal.returns-clause-room
returns-clause-room g c = c.inquire-answered.ensures.room

pub returns-clause-later : goal.returns-clause-later
returns-clause-later g c = c.find_root.ensures.keeps
