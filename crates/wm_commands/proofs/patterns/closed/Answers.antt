use Rattle.std.proofs.Common.{arith}
use Rattle.wm_commands.proofs.Round.{is_found}
use Rattle.wm_commands.proofs.patterns.closed.Goals as goal

pub returns-clause-found : goal.returns-clause-found
returns-clause-found c = is_found 125 c.args.rest.now c.split_once.result c.split_once.ensures.cases (omega arith)
