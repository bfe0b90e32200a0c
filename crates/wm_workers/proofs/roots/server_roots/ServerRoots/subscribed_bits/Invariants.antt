use Rattle.std.proofs.Common.{ℕ, drop}
use Rattle.wm_workers.specs.SubscribedRoots.{AddsBitsOf}
use Rattle.wm_workers.proofs.roots.server_roots.ServerRoots.subscribed_bits.Given as goal

abbrev pub invariant-loop-place : goal.invariant-loop-place
invariant-loop-place g l = (all : ℕ) → AddsBitsOf l.roots (drop l.place l.subscriptions) all → AddsBitsOf 0 l.subscriptions all
