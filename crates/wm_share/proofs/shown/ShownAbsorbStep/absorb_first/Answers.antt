use Rattle.std.proofs.Common.{◌≡◌, length, ◌+◌, arith}
use Rattle.wm_share.proofs.Lists.{list_more, kept_more}
use Rattle.wm_share.proofs.shown.ShownAbsorbStep.absorb_first.Goals as goal

pub invariant_of-self-2 : goal.invariant_of-self-2
invariant_of-self-2 g c =
    let xs = c.self.inside.front in let ys = c.step.inside.front in let op = c.step.inside.entry.op in
    let longer : length ys.operations ≡ length xs.operations + 1 = omega (arith, c.len-before.ensures, c.len-after.ensures, c.if-after-before.false, c.if-after-before-ne1.false) in
    rw c.again.ensures (kept_more c.self.inside.view c.perform.new.view _ xs ys op (list_more xs ys op c.step.invariant c.if-not-begins.ensures longer) c.self.invariant.0 c.in_ok-self-inside.ensures.done)

pub returns-clause-absorbed : goal.returns-clause-absorbed
returns-clause-absorbed g c =
    let xs = c.self.inside.front in let ys = c.step.inside.front in let op = c.step.inside.entry.op in
    let longer : length ys.operations ≡ length xs.operations + 1 = omega (arith, c.len-before.ensures, c.len-after.ensures, c.if-after-before.false, c.if-after-before-ne1.false) in
    rw (c.again.ensures, ← c.self.view_is, ← c.step.view_is) (list_more xs ys op c.step.invariant c.if-not-begins.ensures longer)
