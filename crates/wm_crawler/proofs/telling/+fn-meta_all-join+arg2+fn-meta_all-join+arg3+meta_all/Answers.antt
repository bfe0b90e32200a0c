use Rattle.std.proofs.Common.{◌/◌, length}
use Rattle.std.proofs.lemmas.Result.{err_from_is_err_and, IfErr-at_err, IfOk-at_ok}
use Rattle.wm_crawler.proofs.Steps.{fails_below_first, fails_below_last, metas_halves}
use Rattle.wm_crawler.proofs.telling.+fn-meta_all-join+arg2+fn-meta_all-join+arg3+meta_all.Goals as goal

pub returns-in_err-all-clause-refused : goal.returns-in_err-all-clause-refused
returns-in_err-all-clause-refused g t c =
    let p = err_from_is_err_and c.from_residual.result c.from_residual.ensures.1 in
    rw (p.1, p.2) (λ ne.
    let h = IfErr-at_err _ c.in_err-all.was c.join-front.ensures.first.1 ne in
    (h.0, fails_below_first (g.T.Tree.may_fail c.args.tree.now) (length c.args.paths.now / 2) c.args.paths.now c.split_at.result.0.now c.split_at.result.1.now c.split_at.ensures.front c.split_at.ensures.back h.1))

pub returns-in_err-more-clause-refused : goal.returns-in_err-more-clause-refused
returns-in_err-more-clause-refused g t c =
    let p = err_from_is_err_and c.from_residual-in_err-more.result c.from_residual-in_err-more.ensures.1 in
    rw (p.1, p.2) (λ ne.
    let h = IfErr-at_err _ c.in_err-more.was c.join-front.ensures.second.1 ne in
    (h.0, fails_below_last (g.T.Tree.may_fail c.args.tree.now) (length c.args.paths.now / 2) c.args.paths.now c.split_at.result.0.now c.split_at.result.1.now c.split_at.ensures.front c.split_at.ensures.back h.1))

pub returns-clause-read : goal.returns-clause-read
returns-clause-read g t c = λ s.
    metas_halves (g.T.Tree.content c.args.tree.now) (length c.args.paths.now / 2) c.args.paths.now c.split_at.result.0.now c.split_at.result.1.now c.in_ok-all.all.items c.in_ok-more.more.items c.append.new.self.items
    c.split_at.ensures.front c.split_at.ensures.back (IfOk-at_ok _ c.in_ok-all.was c.join-front.ensures.first.0 s) (IfOk-at_ok _ c.in_ok-more.was c.join-front.ensures.second.0 s) c.in_ok-append.ensures.items
