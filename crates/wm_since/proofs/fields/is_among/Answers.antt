use Rattle.std.proofs.Common.{◌∙◌}
use Rattle.wm_since.proofs.Naming.{among}
use Rattle.wm_since.proofs.fields.is_among.Goals as goal

pub returns : goal.returns
returns c = c.contains.ensures.value ∙ among c.args.name.now c.args.names.now
