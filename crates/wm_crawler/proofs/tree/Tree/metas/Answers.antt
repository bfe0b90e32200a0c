use Rattle.std.proofs.lemmas.Result.{err_from_is_err_and}
use Rattle.wm_crawler.proofs.Steps.{fails_at_one, length_more, metas_more}
use Rattle.wm_crawler.proofs.tree.Tree.metas.Goals as goal

pub returns-in_err-there-clause-refused : goal.returns-in_err-there-clause-refused
returns-in_err-there-clause-refused g c =
    let p = err_from_is_err_and c.from_residual-in_err-there.result c.from_residual-in_err-there.ensures.1 in
    rw (p.1, p.2) (λ ne.
    let h = c.in_err-there.ensures.refused ne in
    (h.0, fails_at_one (g.Self.Tree.may_fail c.args.self.now) c.loop-path.path-index c.args.paths.now c.path-item.result c.loop-path-test.true c.path-item.is h.1))

pub loop-path-preserved : goal.loop-path-preserved
loop-path-preserved g c =
    let (so_many, read) = c.loop-path.invariant in (
      length_more c.loop-path.path-index c.loop-path.metas.items c.push.new.self.items c.in_ok-there.there so_many c.in_ok-push.ensures.items,
      λ s.
          metas_more (g.Self.Tree.content c.args.self.now) c.args.paths.now c.loop-path.path-index c.path-item.result c.loop-path.metas.items c.push.new.self.items c.in_ok-there.there
          c.loop-path-test.true c.path-item.is (read s) c.in_ok-push.ensures.items (c.in_ok-there.ensures.read s),
    )
