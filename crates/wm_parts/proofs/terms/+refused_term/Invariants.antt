use Rattle.serde_json.specs.Data.{depth}
use Rattle.serde_json.specs.View.{view}
use Rattle.wm_parts.proofs.terms.+refused_term.Given as goal

abbrev pub decreases-refused_term : goal.decreases-refused_term
decreases-refused_term l = depth (view l.value.now)
