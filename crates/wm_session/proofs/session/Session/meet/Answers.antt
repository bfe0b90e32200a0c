use Rattle.std.proofs.Common.{arith, false, refl, rules}
use Rattle.wm_session.specs.session.Fronts.{Nowhere}
use Rattle.wm_session.proofs.lemmas.session.AnswerLemmas.{on_ok}
use Rattle.wm_session.proofs.session.Session.meet.Goals as goal

pub returns-in_err-put_version-in-Version-clause-met : goal.returns-in_err-put_version-in-Version-clause-met
returns-in_err-put_version-in-Version-clause-met g c =
    let s = g.met.F.Front.stands c.args.self.now.front Nowhere tt in
    let at = s.1 false in (c.args.moment, omega arith, search rules)

pub returns-in_ok-put_version-in-Version-clause-met : goal.returns-in_ok-put_version-in-Version-clause-met
returns-in_ok-put_version-in-Version-clause-met g c =
    let s = g.met.F.Front.idles c.args.self.now.front in
    let at = s.1 in (c.args.moment, omega arith, search rules)

pub returns-in-Watch-clause-met : goal.returns-in-Watch-clause-met
returns-in-Watch-clause-met g c = (c.args.moment, omega arith, rw c.in-Watch.is (c.command.ensures.met, on_ok c.command.result c.command.ensures.kept))

pub returns-in-WatchDel-clause-met : goal.returns-in-WatchDel-clause-met
returns-in-WatchDel-clause-met g c = (c.args.moment, omega arith, rw c.in-WatchDel.is (c.unwatch.ensures.met, c.unwatch.ensures.ok))

pub returns-in-Trigger-clause-met : goal.returns-in-Trigger-clause-met
returns-in-Trigger-clause-met g c = (c.args.moment, omega arith, rw c.in-Trigger.is (c.command-in-Trigger.ensures.met, on_ok c.command-in-Trigger.result c.command-in-Trigger.ensures.kept))

pub returns-in-TriggerList-clause-met : goal.returns-in-TriggerList-clause-met
returns-in-TriggerList-clause-met g c = (c.args.moment, omega arith, rw c.in-TriggerList.is (c.triggers.ensures.met, on_ok c.triggers.result c.triggers.ensures.kept))

pub returns-in-TriggerDel-clause-met : goal.returns-in-TriggerDel-clause-met
returns-in-TriggerDel-clause-met g c = (c.args.moment, omega arith, rw c.in-TriggerDel.is (c.command-in-TriggerDel.ensures.met, on_ok c.command-in-TriggerDel.result c.command-in-TriggerDel.ensures.kept))

pub returns-in-WatchList-clause-met : goal.returns-in-WatchList-clause-met
returns-in-WatchList-clause-met g c = (c.args.moment, omega arith, rw c.in-WatchList.is (c.watch_list.ensures.met, on_ok c.watch_list.result c.watch_list.ensures.kept))

pub returns-in-Observe-clause-met : goal.returns-in-Observe-clause-met
returns-in-Observe-clause-met g c =
    let m = c.operate.ensures.met in (m.0, m.1, rw c.in-Observe.is (m.2, on_ok c.operate.result c.operate.ensures.kept))

pub returns-in-Listing-clause-met : goal.returns-in-Listing-clause-met
returns-in-Listing-clause-met g c =
    let m = c.operate-in-Listing.ensures.met in (m.0, m.1, rw c.in-Listing.is (m.2, on_ok c.operate-in-Listing.result c.operate-in-Listing.ensures.kept))

pub returns-in-Clock-clause-met : goal.returns-in-Clock-clause-met
returns-in-Clock-clause-met g c = (c.args.moment, omega arith, rw c.in-Clock.is (c.clock.ensures.met, on_ok c.clock.result c.clock.ensures.kept))

pub returns-in-Query-clause-met : goal.returns-in-Query-clause-met
returns-in-Query-clause-met g c = (c.args.moment, omega arith, rw c.in-Query.is (c.inquire.ensures.met, on_ok c.inquire.result refl))

pub returns-in-Subscribe-clause-met : goal.returns-in-Subscribe-clause-met
returns-in-Subscribe-clause-met g c = (c.args.moment, omega arith, rw c.in-Subscribe.is c.subscribe.ensures.met)

pub returns-in-Unsubscribe-clause-met : goal.returns-in-Unsubscribe-clause-met
returns-in-Unsubscribe-clause-met g c = (c.args.moment, omega arith, rw c.in-Unsubscribe.is (c.unsubscribe.ensures.met, c.unsubscribe.ensures.ok))
