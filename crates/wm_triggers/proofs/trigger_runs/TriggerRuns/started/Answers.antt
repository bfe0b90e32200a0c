use Rattle.std.proofs.Common.{◌<◌, List, length, slice_set, subst, sym, ap, ◌∙◌}
use Rattle.wm_triggers.specs.KeptRuns.{KeptRuns, started_at}
use Rattle.wm_triggers.proofs.Placing.{started_is}
use Rattle.wm_triggers.proofs.trigger_runs.TriggerRuns.started.Goals as goal

pub returns : goal.returns
returns c =
    let within : c.args.place < length c.self.inside.all.items = subst (λ (l : List KeptRuns). c.args.place < length l) (sym c.self.view_is) c.requires in
    ap (slice_set c.self.inside.all.items c.args.place) c.started.ensures
    ∙ started_is c.self.inside.all.items c.args.place c.args.run.now.clock c.index_mut.result.now within c.index_mut.ensures.value
    ∙ ap (started_at c.args.place c.args.run.now.clock) c.self.view_is
