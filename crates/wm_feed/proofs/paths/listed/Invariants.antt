use Rattle.std.proofs.Common.{◌≡◌, map}
use Rattle.wm_feed.proofs.paths.listed.Given as goal

abbrev pub invariant-loop-path : goal.invariant-loop-path
invariant-loop-path l = l.listed.items ≡ map (λ p. p.now) l.yielded
