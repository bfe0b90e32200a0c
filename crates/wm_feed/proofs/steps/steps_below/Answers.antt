use Rattle.std.proofs.Common.{◌≡◌, List, ◌++◌, map, ap, subst, ◌∙◌}
use Rattle.wm_names.specs.Paths.{Path}
use Rattle.wm_names.specs.declared.subtree.Subtree.TheVariants.{Below}
use Rattle.wm_feed.specs.Steps.{AskedStep, InLists, crawl, observe, outside, step_in}
use Rattle.wm_feed.proofs.Listing.{crawled_parts, reached_parts}
use Rattle.wm_feed.proofs.steps.steps_below.Goals as goal

pub returns-clause-reached : goal.returns-clause-reached
returns-clause-reached c =
    let lists : List (List Path) = c.in_ok-add_observes.ensures.0 in
    let crawled : List AskedStep = map (λ top. crawl (Below top)) c.args.tops.now in
    let observed : List AskedStep = map (λ list. observe list) lists in
    let is : map step_in c.add_observes.new.steps.items ≡ crawled ++ observed =
    c.in_ok-add_observes.ensures.1 ∙ ap (λ l. l ++ observed) (c.in_ok-add_crawls.ensures ∙ ap (λ s. map step_in s ++ crawled) c.new-steps.ensures.items) in
    let paths = c.deref-2.ensures.value ∙ c.in_ok-paths-2.ensures ∙ ap (outside c.args.tops.now) (c.deref.ensures.value ∙ c.in_ok-paths.ensures.same ∙ c.paths.ensures) in
    let within : InLists (outside c.args.tops.now c.args.batch.now.paths) lists = subst (λ ps. InLists ps lists) paths c.in_ok-add_observes.ensures.2 in
    reached_parts c.args.tops.now c.args.batch.now.paths lists (map step_in c.add_observes.new.steps.items) is within

pub returns-clause-content : goal.returns-clause-content
returns-clause-content c =
    let lists : List (List Path) = c.in_ok-add_observes.ensures.0 in
    let crawled : List AskedStep = map (λ top. crawl (Below top)) c.args.tops.now in
    let observed : List AskedStep = map (λ list. observe list) lists in
    let is : map step_in c.add_observes.new.steps.items ≡ crawled ++ observed =
    c.in_ok-add_observes.ensures.1 ∙ ap (λ l. l ++ observed) (c.in_ok-add_crawls.ensures ∙ ap (λ s. map step_in s ++ crawled) c.new-steps.ensures.items) in
    crawled_parts c.args.tops.now lists (map step_in c.add_observes.new.steps.items) is
