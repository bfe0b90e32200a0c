use Rattle.std.proofs.Common.{◌+◌, ◌++◌, ◌∷◌, [], List, ap, ◌∙◌}
use Rattle.wm_view.specs.Summaries.{Summary}
use Rattle.wm_world.proofs.Beginning.{begun_views, one_more}
use Rattle.wm_world.proofs.starting.begin_views.Goals as goal

pub loop-number-preserved : goal.loop-number-preserved
loop-number-preserved c =
    let vs = c.loop-number.views.items in
    let n = c.loop-number.number in
    ap (λ (items : List Summary). items ++ begun_views c.args.incarnation (n + 1) c.args.to) (c.in_ok-push.ensures.items ∙ ap (λ (v : Summary). vs ++ v ∷ []) c.new.ensures)
    ∙ one_more c.args.incarnation n c.args.to vs c.loop-number-test.true ∙ c.loop-number.invariant
