use Rattle.wm_workers.specs.TriggerWork.{RunsIfDue, RunsOrStays, RunsToEnd}
use Rattle.wm_workers.proofs.Rounds.{each_defined, ok_defined}
use Rattle.wm_workers.proofs.triggers.rounds.RootPrograms.run_all.Goals as goal

pub returns-clause-each : goal.returns-clause-each
returns-clause-each g c =
    let has_run = RunsToEnd (g.S.Starter.has_run c.args.self.now.starter.now) in
    each_defined (RunsOrStays has_run c.args.self.now.root.now.path) c.args.viewer.now.list c.catch_up.new.viewer.list c.run_round.new.viewer.list
    c.in-Ok.defined c.args.runs.now c.run_round.new.runs c.catch_up.ensures.seen c.run_round.ensures.each

pub returns-clause-ok : goal.returns-clause-ok
returns-clause-ok g c =
    let has_run = RunsToEnd (g.S.Starter.has_run c.args.self.now.starter.now) in
    ok_defined (RunsIfDue has_run c.args.self.now.root.now.path) c.args.viewer.now.list c.catch_up.new.viewer.list c.run_round.new.viewer.list
    c.in-Ok.defined c.args.runs.now c.run_round.new.runs c.run_round.result c.catch_up.ensures.seen c.run_round.ensures.ok
