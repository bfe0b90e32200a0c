use Rattle.std.proofs.lemmas.Result.{err_from_is_err_and}
use Rattle.wm_crawler.proofs.Elements.{among_get}
use Rattle.wm_crawler.proofs.Steps.{fails_at, from_more, read_more}
use Rattle.wm_crawler.proofs.reading.read_each.Goals as goal

pub returns-in_err-read_folder-clause-refused : goal.returns-in_err-read_folder-clause-refused
returns-in_err-read_folder-clause-refused g c =
    let p = err_from_is_err_and c.from_residual.result c.from_residual.ensures.1 in
    rw (p.1, p.2) (λ ne.
    let h = c.in_err-read_folder.ensures.refused ne in
    (h.0, fails_at (g.T.Tree.may_fail c.args.tree.now) c.loop-folder.folder-index c.args.folders.now c.folder-item.result c.loop-folder-test.true c.folder-item.is h.1))

pub loop-folder-preserved : goal.loop-folder-preserved
loop-folder-preserved g c =
    let fs = c.args.folders.now in
    let i = c.loop-folder.folder-index in
    let f = c.folder-item.result in
    let old = c.loop-folder.level in
    let new = c.read_folder.new.level in
    record {
      read = λ s. read_more (g.T.Tree.content c.args.tree.now) fs i f old.paths.items new.paths.items old.faults new.faults c.loop-folder-test.true c.folder-item.is
          (c.loop-folder.invariant.read s) (c.in_ok-read_folder.ensures.paths s) (c.in_ok-read_folder.ensures.faults s) (c.in_ok-read_folder.ensures.held s);
      from = from_more fs f old.paths.items new.paths.items c.in_ok-read_folder.ensures.from.0 (among_get f fs i c.loop-folder-test.true c.folder-item.is)
          c.loop-folder.invariant.from c.in_ok-read_folder.ensures.from.1;
    }
