use Rattle.std.proofs.Common.{◌≡◌, ◌++◌, drop}
use Rattle.wm_view.specs.Changes.{first_known}
use Rattle.wm_view.proofs.known_paths.first.first_known.Given as goal

abbrev pub invariant-loop-entry : goal.invariant-loop-entry
invariant-loop-entry l = l.entries.items ++ first_known l.moment (drop l.entry-index l.files) ≡ first_known l.moment l.files
