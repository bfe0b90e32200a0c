use Rattle.std.proofs.Common.{Err, ap}
use Rattle.std.proofs.lemmas.Result.{err_from_is_err_and}
use Rattle.wm_names.specs.Paths.{is_rel_path}
use Rattle.wm_lines.proofs.EachLemmas.{text_fails}
use Rattle.wm_lines.proofs.pairs.read_paths.Goals as goal

pub returns-in_err-path-clause-refused : goal.returns-in_err-path-clause-refused
returns-in_err-path-clause-refused c =
    let p = err_from_is_err_and c.from_residual-in_err-path.result c.from_residual-in_err-path.ensures.1 in
    rw (p.1, p.2) (λ ne.
    let kind = c.in_err-path.ensures.kinds ne in
    (kind, text_fails is_rel_path c.args.pairs.now c.loop-pair.pair-index _ c.loop-pair-test.true (c.in_err-path.ensures.refused.0 (ap (λ x. Err x) kind))))
