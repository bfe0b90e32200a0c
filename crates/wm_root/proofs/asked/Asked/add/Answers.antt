use Rattle.std.proofs.Common.{List, [], ◌∷◌, ◌++◌, sym, ap, subst, ◌∙◌, arith}
use Rattle.wm_root.specs.AskedCrawls.{TicketsRise, new_crawl}
use Rattle.wm_root.specs.declared.asked_crawl.AskedCrawl.{AskedCrawl}
use Rattle.wm_root.proofs.Crawls.{rise-more}
use Rattle.wm_root.proofs.asked.Asked.add.Goals as goal

pub invariant_of-self-2 : goal.invariant_of-self-2
invariant_of-self-2 c =
    let new = new_crawl c.in-Some.number c.in_ok-subtree.subtree 1 in
    subst (λ (l : List AskedCrawl). TicketsRise 0 l c.in-Some.number)
    (sym (c.in_ok-push.ensures.items ∙ ap (λ (x : AskedCrawl). c.self.inside.crawls.items ++ x ∷ []) c.new.ensures))
    (rise-more 0 c.self.inside.crawls.items c.self.inside.last_ticket new c.self.invariant (omega (arith, c.in-Some.ensures)))
