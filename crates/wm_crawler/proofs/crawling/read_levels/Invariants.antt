use Rattle.std.proofs.Common.{◌-◌}
use Rattle.wm_names.specs.declared.subtree.Subtree.{Subtree}
use Rattle.wm_crawler.specs.Levels.{AllIn}
use Rattle.wm_crawler.proofs.Levels.{LeadTo}
use Rattle.wm_crawler.proofs.crawling.read_levels.Given as goal

abbrev pub invariant-loop : goal.invariant-loop
invariant-loop g l = record {
  read : g.T.Tree.stays l.tree → LeadTo (g.T.Tree.content l.tree) (1024 - l.counter) l.files.items l.level.paths.items l.level.faults l.fn.first.paths.items l.fn.first.faults;
  inside : (top : Subtree) → AllIn top l.fn.first.paths.items → AllIn top l.level.paths.items;
}
