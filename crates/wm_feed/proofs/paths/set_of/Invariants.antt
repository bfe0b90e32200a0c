use Rattle.std.proofs.Common.{◌≡◌, take}
use Rattle.wm_feed.proofs.paths.set_of.Given as goal

abbrev pub invariant-loop-path : goal.invariant-loop-path
invariant-loop-path l = l.set.keys ≡ take l.path-index l.paths
