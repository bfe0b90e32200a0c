use Rattle.std.proofs.Common.{◌+◌, drop, fold, max, ap, sym, ◌∙◌}
use Rattle.wm_view.specs.laws.Lists.{drop_here}
use Rattle.wm_view.proofs.view_state.highest.Goals as goal

pub loop-entry-preserved : goal.loop-entry-preserved
loop-entry-preserved c =
    let aged = c.args.aged.now in
    let i = c.loop-entry.entry-index in
    ap (λ n. fold (λ n e. max n e.1.last) n (drop (i + 1) aged)) c.max-highest.ensures
    ∙ ap (fold (λ n e. max n e.1.last) c.loop-entry.highest) (sym (drop_here aged i c.entry-item.result c.loop-entry-test.true c.entry-item.is))
    ∙ c.loop-entry.invariant
