use Rattle.std.proofs.Common.{◌≡◌, ◌++◌, map, take}
use Rattle.wm_names.specs.declared.subtree.Subtree.TheVariants.{Below}
use Rattle.wm_feed.specs.Steps.{crawl, step_in}
use Rattle.wm_feed.proofs.steps.add_crawls.Given as goal

abbrev pub invariant-loop-top : goal.invariant-loop-top
invariant-loop-top l = map step_in l.steps.items ≡ map step_in l.initial.steps.items ++ map (λ top. crawl (Below top)) (take l.top-index l.tops)
