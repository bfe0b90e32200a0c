use Rattle.std.proofs.Common.{◌≡◌, Some, None, List, position, sym, ap, subst, ◌∙◌}
use Rattle.wm_root.specs.AskedCrawls.{TicketsRise, ended_crawl, has_ticket}
use Rattle.wm_root.specs.declared.asked_crawl.AskedCrawl.{AskedCrawl}
use Rattle.wm_root.proofs.Crawls.{changed, ended-keeps, gone-at, rise-first, set-at, unchanged_state}
use Rattle.wm_root.proofs.asked.Asked.end.Goals as goal

pub invariant_of-self : goal.invariant_of-self
invariant_of-self c =
    let found : position (has_ticket c.args.ticket) c.self.inside.crawls.items ≡ Some c.in-Some.place = ap (position (has_ticket c.args.ticket)) (sym c.deref.ensures.value) ∙ sym c.in-Some.ensures in
    subst (λ (l : List AskedCrawl). TicketsRise 0 l c.self.inside.last_ticket)
    (gone-at (has_ticket c.args.ticket) (ended_crawl c.args.ended) c.self.inside.crawls.items c.in-Some.place c.index_mut.result.now c.end.new.self found c.index_mut.ensures.value c.if-not-end.ensures ∙ sym c.remove_at.ensures)
    (rise-first (has_ticket c.args.ticket) (ended_crawl c.args.ended) (ended-keeps c.args.ended) 0 c.self.inside.crawls.items c.self.inside.last_ticket c.self.invariant)

pub invariant_of-self-else-not-end : goal.invariant_of-self-else-not-end
invariant_of-self-else-not-end c =
    let found : position (has_ticket c.args.ticket) c.self.inside.crawls.items ≡ Some c.in-Some.place = ap (position (has_ticket c.args.ticket)) (sym c.deref.ensures.value) ∙ sym c.in-Some.ensures in
    subst (λ (l : List AskedCrawl). TicketsRise 0 l c.self.inside.last_ticket)
    (set-at (has_ticket c.args.ticket) (ended_crawl c.args.ended) c.self.inside.crawls.items c.in-Some.place c.index_mut.result.now c.end.new.self found c.index_mut.ensures.value c.if-not-end.ensures)
    (rise-first (has_ticket c.args.ticket) (ended_crawl c.args.ended) (ended-keeps c.args.ended) 0 c.self.inside.crawls.items c.self.inside.last_ticket c.self.invariant)

pub returns-then-not-end : goal.returns-then-not-end
returns-then-not-end c =
    let found : position (has_ticket c.args.ticket) c.self.inside.crawls.items ≡ Some c.in-Some.place = ap (position (has_ticket c.args.ticket)) (sym c.deref.ensures.value) ∙ sym c.in-Some.ensures in
    changed (has_ticket c.args.ticket) (ended_crawl c.args.ended) c.self.inside.crawls.items _ c.self.inside.last_ticket c.self.inside.changes c.self.inside.has_ended c.args.self.now c.self.view_is
    (gone-at (has_ticket c.args.ticket) (ended_crawl c.args.ended) c.self.inside.crawls.items c.in-Some.place c.index_mut.result.now c.end.new.self found c.index_mut.ensures.value c.if-not-end.ensures ∙ sym c.remove_at.ensures)

pub returns-else-not-end : goal.returns-else-not-end
returns-else-not-end c =
    let found : position (has_ticket c.args.ticket) c.self.inside.crawls.items ≡ Some c.in-Some.place = ap (position (has_ticket c.args.ticket)) (sym c.deref.ensures.value) ∙ sym c.in-Some.ensures in
    changed (has_ticket c.args.ticket) (ended_crawl c.args.ended) c.self.inside.crawls.items _ c.self.inside.last_ticket c.self.inside.changes c.self.inside.has_ended c.args.self.now c.self.view_is
    (set-at (has_ticket c.args.ticket) (ended_crawl c.args.ended) c.self.inside.crawls.items c.in-Some.place c.index_mut.result.now c.end.new.self found c.index_mut.ensures.value c.if-not-end.ensures)

pub returns-in-None : goal.returns-in-None
returns-in-None c =
    let none : position (has_ticket c.args.ticket) c.self.inside.crawls.items ≡ None = ap (position (has_ticket c.args.ticket)) (sym c.deref.ensures.value) ∙ sym c.in-None.ensures in
    unchanged_state (has_ticket c.args.ticket) (ended_crawl c.args.ended) c.self.inside.crawls.items c.self.inside.last_ticket c.self.inside.changes c.self.inside.has_ended c.args.self.now c.self.view_is none
