use Rattle.std.proofs.Common.{◌≡◌, not, take}
use Rattle.std.specs.List.{filter}
use Rattle.wm_feed.specs.Orphans.{is_explained}
use Rattle.wm_feed.proofs.orphans.Orphans.unexplained.Given as goal

abbrev pub invariant-loop-name : goal.invariant-loop-name
invariant-loop-name l = l.left.items ≡ filter (λ p. not (is_explained p l.self.ended)) (take l.name-index l.name-items)
