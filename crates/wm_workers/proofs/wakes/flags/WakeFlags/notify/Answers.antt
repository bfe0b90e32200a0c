use Rattle.wm_workers.proofs.Flags.{notified}
use Rattle.wm_workers.proofs.wakes.flags.WakeFlags.notify.Goals as goal

pub returns : goal.returns
returns g c = notified c.args.roots c.deref_mut.result.now.items c.notify_each.new.flags.items c.notify_each.ensures
