use Rattle.std.proofs.Common.{◌∙◌, refl}
use Rattle.wm_names.proofs.TextOrders.{passed}
use Rattle.wm_names.proofs.text_order.compare_texts.Goals as goal

pub loop-one-preserved : goal.loop-one-preserved
loop-one-preserved c = c.loop-one.invariant ∙ passed 8 c.loop-one.one.now c.loop-one.other.now (c.loop-one-test.ensures refl)
