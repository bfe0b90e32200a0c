use Rattle.std.proofs.Common.{◌≡◌, drop}
use Rattle.serde_json.specs.View.{items_view}
use Rattle.wm_parts.specs.RefusedTerms.{first_refused}
use Rattle.wm_parts.proofs.terms.first_refused.Given as goal

abbrev pub invariant-loop-part : goal.invariant-loop-part
invariant-loop-part l = first_refused (items_view (drop l.part-index l.parts)) ≡ first_refused (items_view l.parts)
