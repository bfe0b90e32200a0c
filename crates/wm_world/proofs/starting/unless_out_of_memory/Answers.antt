use Rattle.std.proofs.Common.{sym, ◌∙◌}
use Rattle.wm_world.proofs.Beginning.{none_out_of_memory}
use Rattle.wm_world.proofs.starting.unless_out_of_memory.Goals as goal

pub returns : goal.returns
returns c = none_out_of_memory c.args.replies.now (sym c.any_out_of_memory.ensures ∙ c.if-any_out_of_memory.false)
