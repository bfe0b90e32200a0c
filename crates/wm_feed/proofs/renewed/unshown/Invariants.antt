use Rattle.std.proofs.Common.{◌≡◌, take}
use Rattle.wm_feed.specs.Renewed.{unshown}
use Rattle.wm_feed.proofs.renewed.unshown.Given as goal

abbrev pub invariant-loop-one : goal.invariant-loop-one
invariant-loop-one l = l.left.items ≡ unshown (take l.one-index l.pairs) l.changed.keys
