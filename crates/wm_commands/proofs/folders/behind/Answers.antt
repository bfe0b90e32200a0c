use Rattle.wm_commands.proofs.Behind.{behind_is}
use Rattle.wm_commands.proofs.folders.behind.Goals as goal

pub returns : goal.returns
returns c = behind_is c.args.start.now c.args.path.now c.strip_prefix.result c.strip_prefix.ensures.cases
