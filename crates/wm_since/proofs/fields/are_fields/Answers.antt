use Rattle.std.proofs.Common.{sym, ◌∙◌, arith}
use Rattle.wm_since.proofs.Naming.{all_known, one_unknown}
use Rattle.wm_since.proofs.fields.are_fields.Goals as goal

pub returns-then-are_known : goal.returns-then-are_known
returns-then-are_known c = all_known c.args.names.now (omega arith) c.are_distinct.result (sym c.are_known.ensures ∙ c.if-are_known.true) c.are_distinct.ensures

pub returns-else-are_known : goal.returns-else-are_known
returns-else-are_known c = c.if-are_known.false ∙ one_unknown c.args.names.now (omega arith) (sym c.are_known.ensures ∙ c.if-are_known.false)
