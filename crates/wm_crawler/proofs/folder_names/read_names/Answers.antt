use Rattle.std.proofs.Common.{rules, tests, ◌≡◌, ◌∙◌, false, sym, ap, List, ℕ}
use Rattle.wm_crawler.specs.FolderNames.{with_held_names}
use Rattle.wm_crawler.proofs.Sorting.{sorted_folder}
use Rattle.wm_crawler.proofs.folder_names.read_names.Goals as goal

pub returns-then-not-branch-clause-names : goal.returns-then-not-branch-clause-names
returns-then-not-branch-clause-names g c s =
    let now = c.loop.invariant.stays s in
    let done : c.in_ok-read_some.field-0 ≡ false = search (rules, tests) in
    let empty = c.in_ok-read_some.ensures.end now done in
    sorted_folder (g.N.NameReader.left c.args.names.now) c.read_some.new.dir c.sort.new.self
    (sym (ap (λ (l : List (List ℕ)). with_held_names l c.read_some.new.dir) empty) ∙ c.in_ok-read_some.ensures.read now ∙ c.loop.invariant.read s)
    c.in_ok-sort.ensures.same.0 c.in_ok-sort.ensures.same.1 c.in_ok-sort.ensures.sorted
