use Rattle.std.proofs.Common.{◌++◌, take, vec_len}
use Rattle.wm_store.proofs.Endings.{IsUnderWay}
use Rattle.wm_store.proofs.batch.run.Given as goal

abbrev pub invariant-loop-command : goal.invariant-loop-command
invariant-loop-command g l = IsUnderWay g.D.Disk g.V.Layout.sizes g.V.Filed.version l.fn.keeper l.fn.commands.items (take (vec_len l.fn.batch.replies) l.fn.commands.items ++ l.yielded) l.keeper l.batch
