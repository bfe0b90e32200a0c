use Rattle.std.proofs.Common.{◌≡◌, drop}
use Rattle.serde_json.specs.View.{items_view}
use Rattle.wm_parts.specs.RefusedParts.{first_unknown}
use Rattle.wm_parts.proofs.fields.first_unknown.Given as goal

abbrev pub invariant-loop-value : goal.invariant-loop-value
invariant-loop-value l = first_unknown (items_view (drop l.value-index l.values)) ≡ first_unknown (items_view l.values)
