use Rattle.std.proofs.Common.{refl}
use Rattle.serde_json.specs.View.{view}
use Rattle.wm_expr.proofs.Alone.{type_alone}
use Rattle.wm_expr.proofs.simple.type_term.Goals as goal

pub returns-in-len1-up-clause-refused : goal.returns-in-len1-up-clause-refused
returns-in-len1-up-clause-refused c = λ ne. (refl, type_alone (view c.args.first.now) c.args.rest.now c.in-len1-up.len_at_least)
