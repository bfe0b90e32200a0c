use Rattle.std.proofs.Common.{◌≡◌, ◌++◌, drop}
use Rattle.wm_view.specs.Changes.{first_places}
use Rattle.wm_view.proofs.known_paths.first.first_places.Given as goal

abbrev pub invariant-loop-entry : goal.invariant-loop-entry
invariant-loop-entry l = l.places.items ++ first_places (drop l.entry-index l.files) ≡ first_places l.files
