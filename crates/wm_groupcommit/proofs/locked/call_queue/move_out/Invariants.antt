use Rattle.std.proofs.Common.{◌≡◌, List, ◌++◌, vec_capacity, vec_len}
use Rattle.crossbeam_queue.specs.SegBatches.{Holds}
use Rattle.crossbeam_queue.specs.SegTies.{IsSegPassOf}
use Rattle.wm_groupcommit.specs.declared.queued.Call.{Call}
use Rattle.wm_groupcommit.proofs.locked.call_queue.move_out.Given as goal

abbrev pub invariant-loop-i : goal.invariant-loop-i
invariant-loop-i g l = record {
  queue : IsSegPassOf l.queue l.pass × (l.pass.id ≡ l.initial.pass.id) × (l.pass.me.view.client ≡ l.initial.pass.me.view.client);
  room : (vec_capacity l.calls ≡ vec_capacity l.initial.calls) × (vec_len l.calls ≡ l._i);
  rest : (xs : List Call) → Holds l.queue l.initial.pass l.initial.batch xs → (left : List Call) × (xs ≡ l.calls.items ++ left) × Holds l.queue l.pass l.batch left;
}
