use Rattle.std.proofs.Common.{map, subst}
use Rattle.std.proofs.lemmas.Result.{err_from_is_err_and}
use Rattle.wm_names.specs.declared.subtree.Subtree.TheVariants.{Below}
use Rattle.wm_crawler.specs.Trees.{AreMetas, SomeFails}
use Rattle.wm_crawler.proofs.Steps.{among_paired, told_from}
use Rattle.wm_crawler.proofs.telling.told_all.Goals as goal

pub returns-in_err-metas-clause-refused : goal.returns-in_err-metas-clause-refused
returns-in_err-metas-clause-refused g c =
    let p = err_from_is_err_and c.from_residual.result c.from_residual.ensures.1 in
    rw (p.1, p.2) (λ ne.
    let h = c.in_err-metas.ensures.refused ne in
    (h.0, subst (λ ps. SomeFails (g.T.Tree.may_fail c.args.tree.now) (map Below ps)) c.deref.ensures.value h.1))

pub returns-clause-read : goal.returns-clause-read
returns-clause-read g c = rw c.in_ok-found.ensures (λ s.
    told_from (g.T.Tree.content c.args.tree.now) c.args.paths.items c.in_ok-metas.metas.items
    (subst (λ ps. AreMetas (g.T.Tree.content c.args.tree.now) ps c.in_ok-metas.metas.items) c.deref.ensures.value (c.in_ok-metas.ensures.read s)))

pub returns-clause-among : goal.returns-clause-among
returns-clause-among g c = rw c.in_ok-found.ensures (among_paired c.args.paths.items c.in_ok-metas.metas.items)
