use Rattle.std.proofs.Common.{◌≡◌}
use Rattle.wm_share.proofs.shares.fill.Given as goal

-- the pool is of the front's share
abbrev pub invariant-loop : goal.invariant-loop
invariant-loop g l = l.pool.share ≡ l.front.share
