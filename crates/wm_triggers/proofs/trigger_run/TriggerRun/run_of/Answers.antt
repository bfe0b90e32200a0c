use Rattle.std.proofs.Common.{sym, ◌∙◌}
use Rattle.wm_triggers.specs.TriggerRuns.{is_for, last_started}
use Rattle.wm_triggers.proofs.Applied.{due_applies, misses_nothing}
use Rattle.wm_triggers.proofs.trigger_run.TriggerRun.run_of.Goals as goal

pub returns-clause-applied : goal.returns-clause-applied
returns-clause-applied c = due_applies c.every_client.ensures (is_for c.args.self.now) (last_started c.args.self.now) c.args.answer c.of.result c.of.ensures

pub returns-clause-missed : goal.returns-clause-missed
returns-clause-missed c none = misses_nothing c.every_client.ensures (is_for c.args.self.now) (last_started c.args.self.now) c.args.answer (sym c.of.ensures ∙ none)
