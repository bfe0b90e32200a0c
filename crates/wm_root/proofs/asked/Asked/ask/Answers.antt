use Rattle.std.proofs.Common.{◌≡◌, Some, None, Ok, List, position, sym, ap, subst, ◌∙◌}
use Rattle.wm_root.specs.AskedCrawls.{TicketsRise, one_more_waits, serves}
use Rattle.wm_root.specs.declared.asked_crawl.AskedCrawl.{AskedCrawl}
use Rattle.wm_root.proofs.Crawls.{changed, found_state, if_found, if_none, more-keeps, rise-first, set-at, some_none, unfound_state}
use Rattle.wm_root.proofs.asked.Asked.ask.Goals as goal

pub invariant_of-self : goal.invariant_of-self
invariant_of-self c =
    let found : position (serves c.args.subtree.now) c.self.inside.crawls.items ≡ Some c.in-Some.place = ap (position (serves c.args.subtree.now)) (sym c.deref.ensures.value) ∙ sym c.in-Some.ensures in
    subst (λ (l : List AskedCrawl). TicketsRise 0 l c.self.inside.last_ticket)
    (set-at (serves c.args.subtree.now) one_more_waits c.self.inside.crawls.items c.in-Some.place c.index_mut.result.now c.join-number.new.self found c.index_mut.ensures.value c.join-number.ensures.joined)
    (rise-first (serves c.args.subtree.now) one_more_waits more-keeps 0 c.self.inside.crawls.items c.self.inside.last_ticket c.self.invariant)

pub returns-in-Some-clause-joined : goal.returns-in-Some-clause-joined
returns-in-Some-clause-joined c =
    let found : position (serves c.args.subtree.now) c.self.inside.crawls.items ≡ Some c.in-Some.place = ap (position (serves c.args.subtree.now)) (sym c.deref.ensures.value) ∙ sym c.in-Some.ensures in
    if_found _ c.index_mut.result.now _ (found_state (serves c.args.subtree.now) c.self.inside.crawls.items c.self.inside.last_ticket c.self.inside.changes c.self.inside.has_ended c.args.self.now c.in-Some.place c.index_mut.result.now c.self.view_is found c.index_mut.ensures.value)
    (ap (λ part. Ok (record { number = c.join-number.result; part = part })) c.of.ensures ∙ ap (λ number. Ok (record { number = number; part = c.args.subtree.now })) c.join-number.ensures.ticket, changed (serves c.args.subtree.now) one_more_waits c.self.inside.crawls.items _ c.self.inside.last_ticket c.self.inside.changes c.self.inside.has_ended c.args.self.now c.self.view_is (set-at (serves c.args.subtree.now) one_more_waits c.self.inside.crawls.items c.in-Some.place c.index_mut.result.now c.join-number.new.self found c.index_mut.ensures.value c.join-number.ensures.joined))

pub returns-in-Some-clause-added : goal.returns-in-Some-clause-added
returns-in-Some-clause-added c =
    let found : position (serves c.args.subtree.now) c.self.inside.crawls.items ≡ Some c.in-Some.place = ap (position (serves c.args.subtree.now)) (sym c.deref.ensures.value) ∙ sym c.in-Some.ensures in
    λ none. some_none _ c.index_mut.result.now _ (found_state (serves c.args.subtree.now) c.self.inside.crawls.items c.self.inside.last_ticket c.self.inside.changes c.self.inside.has_ended c.args.self.now c.in-Some.place c.index_mut.result.now c.self.view_is found c.index_mut.ensures.value) none

pub returns-in-None-clause-joined : goal.returns-in-None-clause-joined
returns-in-None-clause-joined c =
    let none : position (serves c.args.subtree.now) c.self.inside.crawls.items ≡ None = ap (position (serves c.args.subtree.now)) (sym c.deref.ensures.value) ∙ sym c.in-None.ensures in
    if_none _ _ (unfound_state (serves c.args.subtree.now) c.self.inside.crawls.items c.self.inside.last_ticket c.self.inside.changes c.self.inside.has_ended c.args.self.now c.self.view_is none)
