use Rattle.std.proofs.Common.{◌≡◌, map, take}
use Rattle.serde_json.specs.View.{view}
use Rattle.wm_feed.specs.Observes.{pair_data}
use Rattle.wm_feed.proofs.observing.all.Given as goal

abbrev pub invariant-loop-one : goal.invariant-loop-one
invariant-loop-one l = map view l.values.items ≡ map pair_data (take l.one-index l.pairs)
