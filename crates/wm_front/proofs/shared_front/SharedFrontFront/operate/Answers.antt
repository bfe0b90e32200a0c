use Rattle.std.proofs.Common.{inl, inr, refl, subst}
use Rattle.wm_front.specs.MetShared.{SharedKnown}
use Rattle.wm_front.proofs.Changing.{changed_found, changed_refused, not_before}
use Rattle.wm_front.proofs.shared_front.SharedFrontFront.operate.Goals as goal

pub returns-in-Err-clause-met : goal.returns-in-Err-clause-met
returns-in-Err-clause-met g c =
    let a : SharedKnown = record { seat = c.args.self.now.seat; viewers = c.args.self.now.viewers } in
    let b : SharedKnown = record { seat = c.find_root.new.seat; viewers = c.args.self.now.viewers } in
    let has = g.H.Roots.has c.args.self.now.roots.now in
    let w = changed_refused has c.args.root.now c.args.op a b c.in-Err.refusal c.find_root.ensures.keeps refl c.in-Err.ensures.refused in
    record { way = w.way; found = w.found; moment = w.moment; later = w.later; at = (w.later, inl refl, w.by); reply_is = w.reply_is }

pub returns-in-Err-clause-later : goal.returns-in-Err-clause-later
returns-in-Err-clause-later g c = c.find_root.ensures.keeps

pub returns-in-Err-change-clause-met : goal.returns-in-Err-change-clause-met
returns-in-Err-change-clause-met g c =
    let a : SharedKnown = record { seat = c.args.self.now.seat; viewers = c.args.self.now.viewers } in
    let b : SharedKnown = record { seat = c.find_root.new.seat; viewers = c.change.new.self } in
    let has = g.H.Roots.has c.args.self.now.roots.now in
    let w = changed_refused has c.args.root.now c.args.op a b c.in-Err-change.refusal c.find_root.ensures.keeps c.in-Err-change.ensures.refused.1 (inl c.in-Err-change.ensures.refused.0) in
    record { way = w.way; found = w.found; moment = w.moment; later = w.later; at = (w.later, inl c.in-Err-change.ensures.refused.1, w.by); reply_is = w.reply_is }

pub returns-clause-met : goal.returns-clause-met
returns-clause-met g c =
    let a : SharedKnown = record { seat = c.args.self.now.seat; viewers = c.args.self.now.viewers } in
    let b : SharedKnown = record { seat = c.find_root.new.seat; viewers = c.change.new.self } in
    let has = g.H.Roots.has c.args.self.now.roots.now in
    let number = c.deref.result.now.number in
    let root : has c.args.root.now number = rw c.deref.ensures c.in-Ok.ensures.has in
    let woken : g.H.Roots.woken c.args.self.now.roots.now number = rw c.deref.ensures (subst (λ x. g.H.Roots.woken c.args.self.now.roots.now x.number) c.deref-2.ensures c.notify.ensures) in
    let w = changed_found has c.args.root.now c.args.op c.of-given.result.0 c.of-given.result.1 c.of-given.ensures _ (λ moment read. not_before moment read.0 c.of-given.result.0 read.2) number a b c.in-Ok-change.done.0 c.in-Ok-change.done.1.is_published c.every_line.ensures.operated root c.find_root.ensures.keeps (inr c.in-Ok-change.ensures.seen) in
    record { way = w.way; found = w.found; moment = w.moment; later = w.later; at = (w.later, inr (number, root, woken), w.by); reply_is = w.reply_is }

pub returns-clause-later : goal.returns-clause-later
returns-clause-later g c = c.find_root.ensures.keeps

pub returns-in-Err-change-clause-later : goal.returns-in-Err-change-clause-later
returns-in-Err-change-clause-later g c = c.find_root.ensures.keeps
