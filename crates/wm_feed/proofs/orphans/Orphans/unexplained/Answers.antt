use Rattle.std.proofs.Common.{Bool, not, sym, ap, subst, ◌∙◌, arith}
use Rattle.std.specs.List.{filter}
use Rattle.std.specs.List.Sorted.{IsStrictlySortedBy}
use Rattle.std.proofs.lemmas.List.{take_all}
use Rattle.std.proofs.lemmas.List.Kept.{IsStrictlySortedBy-filter}
use Rattle.wm_names.specs.Paths.{Path, path_cmp}
use Rattle.wm_feed.specs.Orphans.{is_explained}
use Rattle.wm_feed.proofs.orphans.Orphans.unexplained.Goals as goal

pub set_of-requires : goal.set_of-requires
set_of-requires c =
    let p : Path → Bool = λ q. not (is_explained q c.args.self.now.ended) in
    let all = take_all c.loop-name.name-index c.deref-name-items.result.now (omega arith) in
    let is = c.deref.ensures.value ∙ c.loop-name.invariant ∙ ap (filter p) (all ∙ c.deref-name-items.ensures.value ∙ c.in_ok-names.ensures.same) in
    subst (IsStrictlySortedBy path_cmp) (sym is) (IsStrictlySortedBy-filter path_cmp p c.self.inside.names.keys c.listed.ensures.sorted)
