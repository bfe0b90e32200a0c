use Rattle.wm_client.proofs.Refusals.{named_of}
use Rattle.wm_client.proofs.refused.refusal_of.Goals as goal

pub returns : goal.returns
returns c = named_of c.args.line.now c.first_of.result c.first_of.ensures
