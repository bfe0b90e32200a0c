use Rattle.std.proofs.Common.{subst}
use Rattle.std.proofs.lemmas.Result.{err_from_is_err_and}
use Rattle.std.specs.String.{string_bytes}
use Rattle.wm_crawler.proofs.Batches.{fails_at_text}
use Rattle.wm_crawler.proofs.folder_tree.add_metas.Goals as goal

pub returns-in_err-there-clause-refused : goal.returns-in_err-there-clause-refused
returns-in_err-there-clause-refused g c =
    let p = err_from_is_err_and c.from_residual.result c.from_residual.ensures.1 in
    rw (p.1, p.2) (λ ne.
    let h = c.in_err-there.ensures.refused in (
      h.0,
      fails_at_text string_bytes (g.F.FileSystem.may_fail c.args.files.now) c.loop-text.text-index c.args.texts.now c.text-item.result c.loop-text-test.true c.text-item.is
          (subst (g.F.FileSystem.may_fail c.args.files.now) c.deref.ensures h.1),
    ))
