use Rattle.std.proofs.Common.{◌+◌, drop, cond, Some, unwrap_or, sym, ap, ◌∙◌}
use Rattle.std.specs.BTreeMap.{get, is_at}
use Rattle.wm_names.specs.Paths.{path_cmp}
use Rattle.wm_view.specs.HistoryLaws.{last_told}
use Rattle.wm_view.specs.laws.Lists.{drop_here}
use Rattle.wm_view.proofs.Plans.{told_turn}
use Rattle.wm_view.proofs.changes.last_told.Goals as goal

pub loop-pair-preserved : goal.loop-pair-preserved
loop-pair-preserved c = λ p old.
    let pairs = c.args.pairs.now in
    let i = c.loop-pair.pair-index in
    let x = c.pair-item.result in
    told_turn c.loop-pair.told.entries c.insert.new.self.entries x (drop (i + 1) pairs) p old
    (c.in_ok-insert.ensures.updates.0 p ∙ ap (λ q. cond (is_at (path_cmp q) p) (Some x.1) (get path_cmp c.loop-pair.told p)) c.in_ok-path.ensures)
    ∙ ap (λ ps. last_told ps p (unwrap_or (get path_cmp c.loop-pair.told p) old)) (sym (drop_here pairs i x c.loop-pair-test.true c.pair-item.is))
    ∙ c.loop-pair.invariant p old
