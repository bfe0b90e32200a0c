use Rattle.std.proofs.Common.{sym}
use Rattle.wm_expr.proofs.Alone.{no_two_words}
use Rattle.wm_expr.proofs.simple.scope.Goals as goal

pub returns-in-len2-up : goal.returns-in-len2-up
returns-in-len2-up c = sym (no_two_words c.args.rest.now c.in-len2-up.len_at_least)
