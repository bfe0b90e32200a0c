use Rattle.std.proofs.Common.{◌≡◌, Some, None, List, position, sym, ap, subst, ◌∙◌}
use Rattle.wm_root.specs.AskedCrawls.{TicketsRise, collected, crawl_outcome, has_ticket}
use Rattle.wm_root.specs.declared.asked_crawl.AskedCrawl.{AskedCrawl}
use Rattle.wm_root.proofs.Crawls.{changed, collected-keeps, found_state, gone-at, rise-first, set-at, unchanged_state, unfound_state, when_false, when_true}
use Rattle.wm_root.proofs.asked.Asked.collect.Goals as goal

pub invariant_of-self : goal.invariant_of-self
invariant_of-self c =
    let found : position (has_ticket c.args.ticket) c.self.inside.crawls.items ≡ Some c.in-Some.place = ap (position (has_ticket c.args.ticket)) (sym c.deref.ensures.value) ∙ sym c.in-Some.ensures in
    subst (λ (l : List AskedCrawl). TicketsRise 0 l c.self.inside.last_ticket)
    (set-at (has_ticket c.args.ticket) collected c.self.inside.crawls.items c.in-Some.place c.index_mut.result.now c.collect-ended.new.self found c.index_mut.ensures.value (when_true _ _ _ c.collect-ended.ensures.left c.if-is_awaited.true))
    (rise-first (has_ticket c.args.ticket) collected collected-keeps 0 c.self.inside.crawls.items c.self.inside.last_ticket c.self.invariant)

pub invariant_of-self-else-is_awaited : goal.invariant_of-self-else-is_awaited
invariant_of-self-else-is_awaited c =
    let found : position (has_ticket c.args.ticket) c.self.inside.crawls.items ≡ Some c.in-Some.place = ap (position (has_ticket c.args.ticket)) (sym c.deref.ensures.value) ∙ sym c.in-Some.ensures in
    subst (λ (l : List AskedCrawl). TicketsRise 0 l c.self.inside.last_ticket)
    (gone-at (has_ticket c.args.ticket) collected c.self.inside.crawls.items c.in-Some.place c.index_mut.result.now c.collect-ended.new.self found c.index_mut.ensures.value (when_false _ _ _ c.collect-ended.ensures.left c.if-is_awaited.false) ∙ sym c.remove_at.ensures)
    (rise-first (has_ticket c.args.ticket) collected collected-keeps 0 c.self.inside.crawls.items c.self.inside.last_ticket c.self.invariant)

pub returns-then-is_awaited-clause-outcome : goal.returns-then-is_awaited-clause-outcome
returns-then-is_awaited-clause-outcome c =
    let found : position (has_ticket c.args.ticket) c.self.inside.crawls.items ≡ Some c.in-Some.place = ap (position (has_ticket c.args.ticket)) (sym c.deref.ensures.value) ∙ sym c.in-Some.ensures in
    c.collect-ended.ensures.outcome ∙ ap crawl_outcome (sym (found_state (has_ticket c.args.ticket) c.self.inside.crawls.items c.self.inside.last_ticket c.self.inside.changes c.self.inside.has_ended c.args.self.now c.in-Some.place c.index_mut.result.now c.self.view_is found c.index_mut.ensures.value))

pub returns-then-is_awaited-clause-left : goal.returns-then-is_awaited-clause-left
returns-then-is_awaited-clause-left c =
    let found : position (has_ticket c.args.ticket) c.self.inside.crawls.items ≡ Some c.in-Some.place = ap (position (has_ticket c.args.ticket)) (sym c.deref.ensures.value) ∙ sym c.in-Some.ensures in
    changed (has_ticket c.args.ticket) collected c.self.inside.crawls.items _ c.self.inside.last_ticket c.self.inside.changes c.self.inside.has_ended c.args.self.now c.self.view_is
    (set-at (has_ticket c.args.ticket) collected c.self.inside.crawls.items c.in-Some.place c.index_mut.result.now c.collect-ended.new.self found c.index_mut.ensures.value (when_true _ _ _ c.collect-ended.ensures.left c.if-is_awaited.true))

pub returns-else-is_awaited-clause-outcome : goal.returns-else-is_awaited-clause-outcome
returns-else-is_awaited-clause-outcome c =
    let found : position (has_ticket c.args.ticket) c.self.inside.crawls.items ≡ Some c.in-Some.place = ap (position (has_ticket c.args.ticket)) (sym c.deref.ensures.value) ∙ sym c.in-Some.ensures in
    c.collect-ended.ensures.outcome ∙ ap crawl_outcome (sym (found_state (has_ticket c.args.ticket) c.self.inside.crawls.items c.self.inside.last_ticket c.self.inside.changes c.self.inside.has_ended c.args.self.now c.in-Some.place c.index_mut.result.now c.self.view_is found c.index_mut.ensures.value))

pub returns-else-is_awaited-clause-left : goal.returns-else-is_awaited-clause-left
returns-else-is_awaited-clause-left c =
    let found : position (has_ticket c.args.ticket) c.self.inside.crawls.items ≡ Some c.in-Some.place = ap (position (has_ticket c.args.ticket)) (sym c.deref.ensures.value) ∙ sym c.in-Some.ensures in
    changed (has_ticket c.args.ticket) collected c.self.inside.crawls.items _ c.self.inside.last_ticket c.self.inside.changes c.self.inside.has_ended c.args.self.now c.self.view_is
    (gone-at (has_ticket c.args.ticket) collected c.self.inside.crawls.items c.in-Some.place c.index_mut.result.now c.collect-ended.new.self found c.index_mut.ensures.value (when_false _ _ _ c.collect-ended.ensures.left c.if-is_awaited.false) ∙ sym c.remove_at.ensures)

pub returns-in-None-clause-outcome : goal.returns-in-None-clause-outcome
returns-in-None-clause-outcome c =
    let none : position (has_ticket c.args.ticket) c.self.inside.crawls.items ≡ None = ap (position (has_ticket c.args.ticket)) (sym c.deref.ensures.value) ∙ sym c.in-None.ensures in
    ap crawl_outcome (sym (unfound_state (has_ticket c.args.ticket) c.self.inside.crawls.items c.self.inside.last_ticket c.self.inside.changes c.self.inside.has_ended c.args.self.now c.self.view_is none))

pub returns-in-None-clause-left : goal.returns-in-None-clause-left
returns-in-None-clause-left c =
    let none : position (has_ticket c.args.ticket) c.self.inside.crawls.items ≡ None = ap (position (has_ticket c.args.ticket)) (sym c.deref.ensures.value) ∙ sym c.in-None.ensures in
    unchanged_state (has_ticket c.args.ticket) collected c.self.inside.crawls.items c.self.inside.last_ticket c.self.inside.changes c.self.inside.has_ended c.args.self.now c.self.view_is none
