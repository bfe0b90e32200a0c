use Rattle.std.proofs.Common.{◌≡◌, take, length}
use Rattle.wm_crawler.specs.Trees.{AreMetas}
use Rattle.wm_crawler.proofs.tree.Tree.metas.Given as goal

abbrev pub invariant-loop-path : goal.invariant-loop-path
invariant-loop-path g l = (length l.metas.items ≡ l.path-index) × (g.Self.Tree.stays l.self → AreMetas (g.Self.Tree.content l.self) (take l.path-index l.paths) l.metas.items)
