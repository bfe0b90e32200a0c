use Rattle.std.proofs.Common.{◌≡◌, map, take}
use Rattle.wm_triggers.specs.KeptRuns.{kept_for}
use Rattle.wm_triggers.proofs.trigger_runs.next_round.Given as goal

abbrev pub invariant-loop-one : goal.invariant-loop-one
invariant-loop-one l = l.all.items ≡ map (kept_for l.kept) (take l.one-index l.defined)
