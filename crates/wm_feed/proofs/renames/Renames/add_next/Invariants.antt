use Rattle.std.proofs.Common.{◌≡◌, take}
use Rattle.wm_feed.proofs.Places.{all_ends}
use Rattle.wm_feed.proofs.renames.Renames.add_next.Given as goal

abbrev pub invariant-loop-one : goal.invariant-loop-one
invariant-loop-one l = l.places.items ≡ all_ends l.path l.initial.places.items (take l.one-index l.one-items)
