use Rattle.std.proofs.Common.{rules}
use Rattle.wm_client.proofs.Passing.{passed_after, passed_less}
use Rattle.wm_client.proofs.timer.Timer.pause.Goals as goal

pub returns-then-waited-self-clause-over : goal.returns-then-waited-self-clause-over
returns-then-waited-self-clause-over g c is = passed_less _ c.args.self.now.limit _ (search rules) c.latest-waited.ensures.passed

pub invariant_of-self : goal.invariant_of-self
invariant_of-self g c = record {
  is_passed = passed_after _ _ _ c.sleep.ensures c.latest-waited.ensures.passed;
  is_short = search rules;
}
