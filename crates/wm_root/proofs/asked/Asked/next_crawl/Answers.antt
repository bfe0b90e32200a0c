use Rattle.std.proofs.Common.{◌≡◌, Option, Some, None, inr, refl}
use Rattle.std.specs.Prelude.{MatchOption}
use Rattle.wm_root.specs.AskedCrawls.{is_waiting}
use Rattle.wm_root.specs.declared.asked_crawl.AskedCrawl.{AskedCrawl}
use Rattle.wm_root.proofs.Crawls.{none_found}
use Rattle.wm_root.proofs.asked.Asked.next_crawl.Goals as goal

not_found : (found : Option AskedCrawl) (P : Type 0) → MatchOption found P (λ crawl. ⊥) → found ≡ None
not_found None P h = refl
not_found (Some crawl) P h = absurd h

pub returns-in-None-clause-begun : goal.returns-in-None-clause-begun
returns-in-None-clause-begun c = inr (none_found is_waiting c.args.self.now.crawls (not_found _ _ c.in-None.ensures.first))
