use Rattle.std.proofs.Common.{◌/◌, length}
use Rattle.std.proofs.lemmas.Result.{err_from_is_err_and, IfErr-at_err, IfOk-at_ok}
use Rattle.wm_crawler.proofs.Steps.{fails_first, fails_last, from_halves, read_halves}
use Rattle.wm_crawler.proofs.reading.+fn-read_all-join+arg2+fn-read_all-join+arg3+read_all.Goals as goal

pub returns-in_err-front-clause-refused : goal.returns-in_err-front-clause-refused
returns-in_err-front-clause-refused g t c =
    let p = err_from_is_err_and c.from_residual.result c.from_residual.ensures.1 in
    rw (p.1, p.2) (λ ne.
    let h = IfErr-at_err _ c.in_err-front.was c.join-front.ensures.first.2 ne in
    (h.0, fails_first (g.T.Tree.may_fail c.args.tree.now) (length c.args.folders.now / 2) c.args.folders.now c.split_at.result.0.now c.split_at.result.1.now c.split_at.ensures.front c.split_at.ensures.back h.1))

pub returns-in_err-back-clause-refused : goal.returns-in_err-back-clause-refused
returns-in_err-back-clause-refused g t c =
    let p = err_from_is_err_and c.from_residual-in_err-back.result c.from_residual-in_err-back.ensures.1 in
    rw (p.1, p.2) (λ ne.
    let h = IfErr-at_err _ c.in_err-back.was c.join-front.ensures.second.2 ne in
    (h.0, fails_last (g.T.Tree.may_fail c.args.tree.now) (length c.args.folders.now / 2) c.args.folders.now c.split_at.result.0.now c.split_at.result.1.now c.split_at.ensures.front c.split_at.ensures.back h.1))

pub returns-clause-from : goal.returns-clause-from
returns-clause-from g t c =
    from_halves (length c.args.folders.now / 2) c.args.folders.now c.split_at.result.0.now c.split_at.result.1.now c.in_ok-front.front.paths.items c.in_ok-back.back.paths.items c.in_ok-both.both.paths.items
    c.split_at.ensures.front c.split_at.ensures.back (IfOk-at_ok _ c.in_ok-front.was c.join-front.ensures.first.1) (IfOk-at_ok _ c.in_ok-back.was c.join-front.ensures.second.1) c.in_ok-both.ensures.paths

pub returns-clause-read : goal.returns-clause-read
returns-clause-read g t c = λ s.
    read_halves (g.T.Tree.content c.args.tree.now) (length c.args.folders.now / 2) c.args.folders.now c.split_at.result.0.now c.split_at.result.1.now c.in_ok-front.front.paths.items c.in_ok-back.back.paths.items c.in_ok-both.both.paths.items
    c.in_ok-front.front.faults c.in_ok-back.back.faults c.in_ok-both.both.faults c.split_at.ensures.front c.split_at.ensures.back
    (IfOk-at_ok _ c.in_ok-front.was c.join-front.ensures.first.0 s) (IfOk-at_ok _ c.in_ok-back.was c.join-front.ensures.second.0 s) c.in_ok-both.ensures.paths c.in_ok-both.ensures.faults
