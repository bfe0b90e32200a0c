use Rattle.std.proofs.Common.{ap₂, ◌∙◌}
use Rattle.std.specs.BTreeSet.{insert_key}
use Rattle.wm_names.specs.Paths.{path_cmp}
use Rattle.wm_feed.proofs.Ordered.{insert_next}
use Rattle.wm_feed.proofs.paths.set_of.Goals as goal

pub loop-path-preserved : goal.loop-path-preserved
loop-path-preserved c =
    c.in_ok-insert.ensures.keys
    ∙ ap₂ (λ ks p. insert_key path_cmp ks p) c.loop-path.invariant c.in_ok-copy.ensures
    ∙ insert_next c.args.paths.now c.loop-path.path-index c.path-item.result c.requires c.loop-path-test.true c.path-item.is
