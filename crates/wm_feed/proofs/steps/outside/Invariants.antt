use Rattle.std.proofs.Common.{◌≡◌, take}
use Rattle.wm_feed.specs.Steps.{outside}
use Rattle.wm_feed.proofs.steps.outside.Given as goal

abbrev pub invariant-loop-path : goal.invariant-loop-path
invariant-loop-path l = l.left.items ≡ outside l.tops (take l.path-index l.paths)
