use Rattle.std.proofs.Common.{◌≡◌, ◌<◌, ◌+◌, length, OnOk, arith, subst, sym}
use Rattle.wm_share.specs.PublishedLists.{history}
use Rattle.wm_workers.specs.TriggerWork.{RunsIfDue, RunsOrStays, RunsToEnd}
use Rattle.wm_workers.proofs.Rounds.{IsPartDone, all_done, next_done, none_done, on_ok, refused_ok, turn_ran, turn_ran_or, turn_stays}
use Rattle.wm_workers.proofs.triggers.rounds.RootPrograms.run_each.Goals.{in-Err, in_default}
use Rattle.wm_workers.proofs.triggers.rounds.RootPrograms.run_each.Goals as goal

pub loop-place-init : goal.loop-place-init
loop-place-init g c =
    let has_run = RunsToEnd (g.S.Starter.has_run c.args.self.now.starter.now) in
    let root = c.args.self.now.root.now.path in
    record {
      each = none_done (RunsOrStays has_run root) c.args.viewer.now.list c.args.runs.now;
      ok = none_done (RunsIfDue has_run root) c.args.viewer.now.list c.args.runs.now;
    }

pub loop-place-preserved : goal.loop-place-preserved
loop-place-preserved g c =
    let has_run = RunsToEnd (g.S.Starter.has_run c.args.self.now.starter.now) in
    let root = c.args.self.now.root.now.path in
    let h = history c.run_at.new.viewer.list in
    let place = c.loop-place.place in
    let now = c.loop-place.runs in
    let new = c.run_at.new.runs in
    let within : place < length c.args.runs.now = omega (arith, c.loop-place-test.true, c.loop-place.auto.place-end, c.len-place-end.ensures) in
    let each = next_done (RunsOrStays has_run root) c.args.viewer.now.list c.loop-place.viewer.list c.run_at.new.viewer.list c.args.runs.now place now new c.loop-place.invariant.each within c.run_at.ensures.seen in
    let ok = next_done (RunsIfDue has_run root) c.args.viewer.now.list c.loop-place.viewer.list c.run_at.new.viewer.list c.args.runs.now place now new in
    let Done = IsPartDone (RunsIfDue has_run root) c.args.viewer.now.list c.run_at.new.viewer.list c.args.runs.now (place + 1) new in
    elim c.match-run_at.branch [
      | in-Err w ↦ record {
        each = each (turn_stays has_run root h place now new w.in-Err.ensures.same);
        ok = refused_ok Done w.in-Err.not_done c.match-run_at.met w.met-is;
      }
      | in_default w ↦ record {
        each = each (turn_ran_or has_run root h place now new w.in_default.ensures.ran);
        ok = subst (λ r. OnOk r Done) (sym w.met-is)
            (on_ok c.loop-place.met c.loop-place.invariant.ok (λ d. ok d within c.run_at.ensures.seen (turn_ran has_run root h place now new w.in_default.ensures.ran)));
      }
    ]

pub returns-clause-ok : goal.returns-clause-ok
returns-clause-ok g c =
    let has_run = RunsToEnd (g.S.Starter.has_run c.args.self.now.starter.now) in
    let all : c.loop-place.place ≡ length c.args.runs.now = omega (arith, c.loop-place-test.false, c.loop-place.auto.place-end, c.len-place-end.ensures) in
    on_ok c.loop-place.met c.loop-place.invariant.ok
    (λ d. all_done (RunsIfDue has_run c.args.self.now.root.now.path) c.args.viewer.now.list c.loop-place.viewer.list c.args.runs.now c.loop-place.place c.loop-place.runs d all)
