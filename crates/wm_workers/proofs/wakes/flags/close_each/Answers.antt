use Rattle.std.proofs.Common.{◌<◌, ◌∙◌, ap, arith, length, set}
use Rattle.wm_workers.specs.WakeFlags.{closed_flag}
use Rattle.wm_workers.proofs.Flags.{one_more_mapped}
use Rattle.wm_workers.proofs.wakes.flags.close_each.Goals as goal

pub loop-slot-preserved : goal.loop-slot-preserved
loop-slot-preserved c =
    let old = c.args.flags.now.items in
    let now = c.loop-slot.flags.items in
    let slot = c.loop-slot.slot in
    let within : slot < length old = omega (arith, c.loop-slot-test.true, c.loop-slot.auto.slot-end, c.len-slot-end.ensures) in
    ap (set now slot) c.close.ensures ∙ one_more_mapped closed_flag old now slot c.index_mut.result.now within c.loop-slot.invariant c.index_mut.ensures.value
