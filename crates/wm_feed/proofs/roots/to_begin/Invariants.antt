use Rattle.std.proofs.Common.{◌≡◌, take}
use Rattle.wm_feed.specs.Roots.{only_in}
use Rattle.wm_feed.proofs.roots.to_begin.Given as goal

abbrev pub invariant-loop-root : goal.invariant-loop-root
invariant-loop-root l = l.missing.items ≡ only_in (take l.root-index l.listed) l.fed
