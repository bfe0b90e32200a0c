use Rattle.std.proofs.Common.{rules}
use Rattle.wm_server.proofs.program.words.bare.Goals as goal

pub returns : goal.returns
returns c = search rules
