use Rattle.std.proofs.Common.{◌≡◌, Option, Some, None, List, position, sym, ap, subst, ◌∙◌, refl}
use Rattle.std.specs.Prelude.{MatchOption}
use Rattle.wm_root.specs.AskedCrawls.{TicketsRise, is_waiting, running}
use Rattle.wm_root.specs.declared.asked_crawl.AskedCrawl.{AskedCrawl}
use Rattle.wm_root.specs.declared.asked_crawl.Stage.TheVariants.{Waiting}
use Rattle.wm_root.proofs.Crawls.{changed, found_state, passes-at, rise-first, running-keeps, set-at, unchanged_state, unfound_state}
use Rattle.wm_root.proofs.asked.Asked.begin.Goals as goal

pub run-requires : goal.run-requires
run-requires c =
    let found : position (is_waiting) c.self.inside.crawls.items ≡ Some c.in-Some.place = ap (position (is_waiting)) (sym c.deref.ensures.value) ∙ sym c.in-Some.ensures in
    passes-at (is_waiting) c.self.inside.crawls.items c.in-Some.place c.index_mut.result.now found c.index_mut.ensures.value

pub invariant_of-self : goal.invariant_of-self
invariant_of-self c =
    let found : position (is_waiting) c.self.inside.crawls.items ≡ Some c.in-Some.place = ap (position (is_waiting)) (sym c.deref.ensures.value) ∙ sym c.in-Some.ensures in
    subst (λ (l : List AskedCrawl). TicketsRise 0 l c.self.inside.last_ticket)
    (set-at (is_waiting) (running) c.self.inside.crawls.items c.in-Some.place c.index_mut.result.now c.run.new.self found c.index_mut.ensures.value c.run.ensures.runs)
    (rise-first (is_waiting) (running) running-keeps 0 c.self.inside.crawls.items c.self.inside.last_ticket c.self.invariant)

pub returns-in-Some-clause-begun : goal.returns-in-Some-clause-begun
returns-in-Some-clause-begun c =
    let found : position (is_waiting) c.self.inside.crawls.items ≡ Some c.in-Some.place = ap (position (is_waiting)) (sym c.deref.ensures.value) ∙ sym c.in-Some.ensures in
    changed (is_waiting) (running) c.self.inside.crawls.items _ c.self.inside.last_ticket c.self.inside.changes c.self.inside.has_ended c.args.self.now c.self.view_is
    (set-at (is_waiting) (running) c.self.inside.crawls.items c.in-Some.place c.index_mut.result.now c.run.new.self found c.index_mut.ensures.value c.run.ensures.runs)

pub returns-in-Some-clause-first : goal.returns-in-Some-clause-first
returns-in-Some-clause-first c =
    let found : position (is_waiting) c.self.inside.crawls.items ≡ Some c.in-Some.place = ap (position (is_waiting)) (sym c.deref.ensures.value) ∙ sym c.in-Some.ensures in
    subst (λ (o : Option AskedCrawl). MatchOption o (Some c.run.result ≡ None) (λ crawl. (c.run.result.0 ≡ crawl.ticket) × (crawl.stage ≡ Waiting c.run.result.1)))
    (sym (found_state (is_waiting) c.self.inside.crawls.items c.self.inside.last_ticket c.self.inside.changes c.self.inside.has_ended c.args.self.now c.in-Some.place c.index_mut.result.now c.self.view_is found c.index_mut.ensures.value))
    c.run.ensures.part

pub returns-in-None-clause-begun : goal.returns-in-None-clause-begun
returns-in-None-clause-begun c =
    let none : position (is_waiting) c.self.inside.crawls.items ≡ None = ap (position (is_waiting)) (sym c.deref.ensures.value) ∙ sym c.in-None.ensures in
    unchanged_state (is_waiting) (running) c.self.inside.crawls.items c.self.inside.last_ticket c.self.inside.changes c.self.inside.has_ended c.args.self.now c.self.view_is none

pub returns-in-None-clause-first : goal.returns-in-None-clause-first
returns-in-None-clause-first c =
    let none : position (is_waiting) c.self.inside.crawls.items ≡ None = ap (position (is_waiting)) (sym c.deref.ensures.value) ∙ sym c.in-None.ensures in
    let unfound = unfound_state (is_waiting) c.self.inside.crawls.items c.self.inside.last_ticket c.self.inside.changes c.self.inside.has_ended c.args.self.now c.self.view_is none in
    rw unfound refl
