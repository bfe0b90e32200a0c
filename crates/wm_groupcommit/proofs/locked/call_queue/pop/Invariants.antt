use Rattle.std.proofs.Common.{◌≡◌, ◌≤◌, [], vec_capacity}
use Rattle.crossbeam_queue.specs.SegTies.{IsSegPassOf}
use Rattle.wm_registry.specs.Limits.{max_batch}
use Rattle.wm_groupcommit.proofs.locked.call_queue.pop.Given as goal

abbrev pub invariant-loop : goal.invariant-loop
invariant-loop g l =
    ((goal.iterator-loop g).can_next l.iterator' × (goal.iterator-loop g).is_finite l.iterator') × IsSegPassOf l.queue l.pass × (l.pass.id ≡ l.initial.pass.id) × (l.pass.me.view.client ≡ l.initial.pass.me.view.client) × (l.calls.items ≡ [])
    × (max_batch ≤ vec_capacity l.calls)
