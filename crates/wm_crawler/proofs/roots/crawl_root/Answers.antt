use Rattle.std.proofs.Common.{subst}
use Rattle.wm_crawler.specs.Crawls.{IsCrawl, IsReadable}
use Rattle.wm_crawler.proofs.roots.crawl_root.Goals as goal

pub returns-clause-files : goal.returns-clause-files
returns-clause-files g c stays = subst (λ r. IsCrawl (g.F.Folders.content c.args.folders.now r) c.args.subtree.now c.in_ok-crawled.crawled.listing.files) c.in_ok-root.ensures (c.in_ok-crawled.ensures.files stays)

pub returns-clause-whole : goal.returns-clause-whole
returns-clause-whole g c stays = subst (λ r. IsReadable (g.F.Folders.content c.args.folders.now r) c.args.subtree.now) c.in_ok-root.ensures (c.in_ok-crawled.ensures.whole stays)
