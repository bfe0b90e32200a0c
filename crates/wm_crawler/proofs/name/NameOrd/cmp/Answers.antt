use Rattle.std.proofs.Common.{◌≢◌, ◌∙◌, rules}
use Rattle.std.specs.Ordering.{nat_cmp}
use Rattle.std.specs.Cmp.Lexicographic.{slice_cmp}
use Rattle.wm_crawler.specs.NameTexts.{name_bytes}
use Rattle.wm_crawler.proofs.Fronts.{fronts_decide}
use Rattle.wm_crawler.proofs.name.NameOrd.cmp.Goals as goal

-- the numbers differ, so they tell the order
pub returns-then-self-other : goal.returns-then-self-other
returns-then-self-other c =
    let one = c.self.inside in
    let other = c.other.inside in
    let apart : one.front ≢ other.front = search rules in
    c.cmp.ensures
    ∙ fronts_decide one.front other.front (name_bytes one.text) (name_bytes other.text) c.self.invariant c.other.invariant apart
    ∙ (λ i. slice_cmp nat_cmp (c.self.view_is i) (c.other.view_is i))
