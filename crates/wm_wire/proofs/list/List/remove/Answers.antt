use Rattle.std.proofs.Common.{◌<◌, length, ap, arith}
use Rattle.wm_wire.specs.Spelling.{list_spelling}
use Rattle.wm_wire.proofs.Edits.{IsList-remove, length-list_spelling-remove}
use Rattle.wm_wire.proofs.list.List.remove.Goals as goal

pub overflow_sub-self : goal.overflow_sub-self
overflow_sub-self g c =
    let W = g.W.Wire in
    let items = c.self.inside.values.items in
    let value = c.remove-value.result in
    let lt : c.args.index < length items = omega (arith, c.requires, ap length c.self.view_is) in
    let is = ap (λ v. length (W.spelling v)) c.remove-value.ensures.value in
    omega (arith, length-list_spelling-remove W.spelling items c.args.index value lt, is, c.size.ensures.exact, c.self.invariant.1)

pub invariant_of-self : goal.invariant_of-self
invariant_of-self g c =
    let W = g.W.Wire in
    let items = c.self.inside.values.items in
    let value = c.remove-value.result in
    let lt : c.args.index < length items = omega (arith, c.requires, ap length c.self.view_is) in
    let is = ap (λ v. length (W.spelling v)) c.remove-value.ensures.value in
    let left = ap (λ l. length (list_spelling W.spelling l)) c.remove-value.ensures.items in
    (rw c.remove-value.ensures.items (IsList-remove g.row.MAX W.fits W.spelling items c.args.index value lt c.self.invariant.0), omega (arith, length-list_spelling-remove W.spelling items c.args.index value lt, is, left, c.size.ensures.exact, c.self.invariant.1))

pub returns-clause-fits : goal.returns-clause-fits
returns-clause-fits g c = (invariant_of-self g c).0
