use Rattle.std.proofs.Common.{Bool, sym, ap, subst, ◌∙◌, arith}
use Rattle.std.specs.List.{filter}
use Rattle.std.specs.List.Sorted.{IsStrictlySortedBy}
use Rattle.std.proofs.lemmas.List.{take_all}
use Rattle.std.proofs.lemmas.List.Kept.{IsStrictlySortedBy-filter}
use Rattle.wm_names.specs.Paths.{Path, path_cmp}
use Rattle.wm_feed.specs.Laws.{is_asked_path}
use Rattle.wm_feed.proofs.lasting.both.Goals as goal

pub set_of-requires : goal.set_of-requires
set_of-requires c =
    let p : Path → Bool = λ q. is_asked_path q c.args.last.now.keys in
    let all = take_all c.loop-path.path-index c.deref-path-items.result.now (omega arith) in
    let is = c.deref.ensures.value ∙ c.loop-path.invariant ∙ ap (filter p) (all ∙ c.deref-path-items.ensures.value ∙ c.in_ok-found.ensures.same) in
    subst (IsStrictlySortedBy path_cmp) (sym is) (IsStrictlySortedBy-filter path_cmp p c.args.found.now.keys c.listed.ensures.sorted)
