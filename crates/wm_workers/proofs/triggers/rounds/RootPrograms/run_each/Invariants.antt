use Rattle.std.proofs.Common.{OnOk}
use Rattle.wm_workers.specs.TriggerWork.{RunsIfDue, RunsOrStays, RunsToEnd}
use Rattle.wm_workers.proofs.Rounds.{IsPartDone}
use Rattle.wm_workers.proofs.triggers.rounds.RootPrograms.run_each.Given as goal

abbrev pub invariant-loop-place : goal.invariant-loop-place
invariant-loop-place g l = record {
  each : IsPartDone (RunsOrStays (RunsToEnd (g.S.Starter.has_run l.self.starter.now)) l.self.root.now.path) l.fn.viewer.list l.viewer.list l.fn.runs l.place l.runs;
  ok : OnOk l.met (IsPartDone (RunsIfDue (RunsToEnd (g.S.Starter.has_run l.self.starter.now)) l.self.root.now.path) l.fn.viewer.list l.viewer.list l.fn.runs l.place l.runs);
}
