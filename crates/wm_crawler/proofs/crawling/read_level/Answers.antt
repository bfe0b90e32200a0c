use Rattle.std.proofs.Common.{◌∙◌, ap, refl}
use Rattle.std.proofs.lemmas.Result.{err_from_is_err_and}
use Rattle.wm_crawler.specs.Levels.{folders}
use Rattle.wm_crawler.proofs.Levels.{fails_at_folder, fails_at_path, next_in, one_level}
use Rattle.wm_crawler.proofs.crawling.read_level.Goals as goal

pub returns-in_err-found-clause-refused : goal.returns-in_err-found-clause-refused
returns-in_err-found-clause-refused g c =
    let p = err_from_is_err_and c.from_residual.result c.from_residual.ensures.1 in
    rw (p.1, p.2) (λ ne.
    let h = c.in_err-found.ensures.refused ne in
    (h.0, λ top inside. fails_at_path (g.T.Tree.may_fail c.args.tree.now) top c.args.level.paths.items c.args.level.paths.items refl inside h.1))

pub returns-in_err-next-clause-refused : goal.returns-in_err-next-clause-refused
returns-in_err-next-clause-refused g c =
    let p = err_from_is_err_and c.from_residual-in_err-next.result c.from_residual-in_err-next.ensures.1 in
    rw (p.1, p.2) (λ ne.
    let h = c.in_err-next.ensures.refused ne in (
      h.0,
      λ top inside. fails_at_folder (g.T.Tree.may_fail c.args.tree.now) top c.args.level.paths.items c.args.level.paths.items c.in_ok-found.found.items c.deref-2.result.now
          refl (c.deref-2.ensures.value ∙ c.in_ok-folders.ensures ∙ ap folders c.deref.ensures.value) inside c.in_ok-found.ensures.among h.1,
    ))

pub returns-clause-inside : goal.returns-clause-inside
returns-clause-inside g c = λ top inside.
    next_in top c.args.level.paths.items c.args.level.paths.items c.in_ok-found.found.items c.deref-2.result.now c.in_ok-next.next.paths.items
    refl (c.deref-2.ensures.value ∙ c.in_ok-folders.ensures ∙ ap folders c.deref.ensures.value) inside c.in_ok-found.ensures.among c.in_ok-next.ensures.from

pub returns-clause-read : goal.returns-clause-read
returns-clause-read g c = λ s.
    one_level (g.T.Tree.content c.args.tree.now) c.args.level.paths.items c.args.level.paths.items c.args.level.faults c.in_ok-found.found.items c.deref-2.result.now c.in_ok-next.next.paths.items
    c.in_ok-next.next.faults c.saturating_add.result refl (c.deref-2.ensures.value ∙ c.in_ok-folders.ensures ∙ ap folders c.deref.ensures.value)
    (c.in_ok-found.ensures.read s) (c.in_ok-next.ensures.read s) c.saturating_add.ensures
