use Rattle.wm_feed.proofs.Places.{AreSoFar}
use Rattle.wm_feed.proofs.renames.Renames.places.Given as goal

abbrev pub invariant-loop-next : goal.invariant-loop-next
invariant-loop-next l = AreSoFar l.self.renamed l.name l.next l.places.items
