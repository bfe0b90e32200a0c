use Rattle.std.proofs.Common.{◌<◌, ◌^◌, length, set, ap, arith}
use Rattle.wm_wire.specs.Spelling.{list_spelling}
use Rattle.wm_wire.proofs.Edits.{IsList-set, length-list_spelling-remove, length-list_spelling-set}
use Rattle.wm_wire.proofs.list.List.set.Goals as goal

pub overflow_sub-bytes : goal.overflow_sub-bytes
overflow_sub-bytes g c =
    let W = g.W.Wire in
    let items = c.self.inside.values.items in
    let lt : c.args.index < length items = omega (arith, c.requires, ap length c.self.view_is) in
    let is = ap (λ v. length (W.spelling v)) c.index.ensures in
    omega (arith, length-list_spelling-remove W.spelling items c.args.index c.index.result.now lt, is, c.size.ensures.exact, c.self.invariant.1)

pub returns-then-bytes-ge-SPELLING_LIMIT-clause-too_long : goal.returns-then-bytes-ge-SPELLING_LIMIT-clause-too_long
returns-then-bytes-ge-SPELLING_LIMIT-clause-too_long g c =
    let W = g.W.Wire in
    let items = c.self.inside.values.items in
    let lt : c.args.index < length items = omega (arith, c.requires, ap length c.self.view_is) in
    let is = ap (λ v. length (W.spelling v)) c.index.ensures in
    let sum = length-list_spelling-set W.spelling items c.args.index c.args.value c.index.result.now lt in
    let less = length-list_spelling-remove W.spelling items c.args.index c.index.result.now lt in
    let seen = ap (λ l. length (list_spelling W.spelling (set l c.args.index c.args.value))) c.self.view_is in
    omega (arith, sum, less, seen, is, c.if-bytes-ge-SPELLING_LIMIT.true, c.size.ensures.exact, c.size-2.ensures.exact, c.self.invariant.1)

pub invariant_of-self : goal.invariant_of-self
invariant_of-self g c =
    let W = g.W.Wire in
    let items = c.self.inside.values.items in
    let lt : c.args.index < length items = omega (arith, c.requires, ap length c.self.view_is) in
    let is = ap (λ v. length (W.spelling v)) c.index.ensures in
    let sum = length-list_spelling-set W.spelling items c.args.index c.args.value c.index.result.now lt in
    let less = length-list_spelling-remove W.spelling items c.args.index c.index.result.now lt in
    let short : length (list_spelling W.spelling (set items c.args.index c.args.value)) < 2 ^ 32 = omega (arith, sum, less, is, c.if-bytes-ge-SPELLING_LIMIT.false, c.size.ensures.exact, c.size-2.ensures.exact, c.self.invariant.1) in
    (IsList-set g.row.MAX W.fits W.spelling items c.args.index c.args.value c.size-2.ensures.fits short c.self.invariant.0, omega (arith, sum, less, is, c.size.ensures.exact, c.size-2.ensures.exact, c.self.invariant.1))

pub returns-clause-fits : goal.returns-clause-fits
returns-clause-fits g c = (invariant_of-self g c).0
