use Rattle.std.proofs.Common.{◌≡◌, true, rules}
use Rattle.wm_crawler.proofs.Tops.{lists_whole}
use Rattle.wm_crawler.proofs.crawling.crawl.Goals as goal

pub returns-clause-files : goal.returns-clause-files
returns-clause-files g c = λ s.
    let there : c.in_ok-has_top.field-0 ≡ true = search rules in
    lists_whole (g.T.Tree.content c.args.tree.now) c.args.subtree.now c.in_ok-found.found.listing.files c.in_ok-has_top.field-0 (c.in_ok-has_top.ensures.read s) there (c.in_ok-found.ensures.files s)
