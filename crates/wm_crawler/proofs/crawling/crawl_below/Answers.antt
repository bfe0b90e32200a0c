use Rattle.std.proofs.Common.{◌∙◌, ap, cond, None}
use Rattle.wm_names.specs.Entries.{covers}
use Rattle.wm_names.specs.declared.subtree.Subtree.{Subtree}
use Rattle.wm_crawler.specs.Levels.{first_at}
use Rattle.wm_crawler.proofs.Whole.{all_counted, all_found, all_readable}
use Rattle.wm_crawler.proofs.crawling.crawl_below.Goals as goal

pub returns-clause-files : goal.returns-clause-files
returns-clause-files g c = λ s.
    let sorted = c.sort_by.new.self.items in
    all_found (g.T.Tree.content c.args.tree.now) c.args.subtree.now c.in_ok-first.first.paths.items c.in_ok-first.first.faults c.in_ok-files.files.items sorted c.in_ok-files.faults c.in_ok-listing.listing.files
    (c.in_ok-first.ensures.read s) (c.in_ok-files.ensures.read s) c.sort_by.ensures.permutation
    (λ p. c.in_ok-listing.ensures.files p ∙ ap (λ (t : Subtree). cond (covers t p) (first_at p sorted) None) c.in_ok-subtree.ensures)

pub returns-clause-faults : goal.returns-clause-faults
returns-clause-faults g c = λ s.
    all_counted (g.T.Tree.content c.args.tree.now) c.args.subtree.now c.in_ok-first.first.paths.items c.in_ok-first.first.faults c.in_ok-files.files.items c.in_ok-files.faults
    (c.in_ok-first.ensures.read s) (c.in_ok-files.ensures.read s)

pub returns-clause-whole : goal.returns-clause-whole
returns-clause-whole g c = λ s.
    all_readable (g.T.Tree.content c.args.tree.now) c.args.subtree.now c.in_ok-first.first.paths.items c.in_ok-first.first.faults c.in_ok-files.files.items c.in_ok-files.faults
    (c.in_ok-first.ensures.read s) (c.in_ok-files.ensures.read s)
