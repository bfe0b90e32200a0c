use Rattle.std.proofs.Common.{rules, ◌≡◌, ◌⊎◌, ◌≤◌, ◌^◌, ◌<◌, drop, arith}
use Rattle.std.proofs.lemmas.List.{take_rest}
use Rattle.wm_wire.specs.Spelling.{BeginsWith, NoneBegins}
use Rattle.wm_wire.specs.declared.list.NotPushed.TheVariants.{Full, TooLong}
use Rattle.wm_wire.proofs.Lists.{no_item, item_refused}
use Rattle.wm_wire.proofs.list.ListWire.take.Goals as goal

pub returns-in_default-2 : goal.returns-in_default-2
returns-in_default-2 g c =
    let W = g.W.Wire in
    let inv = c.loop.invariant in
    let none : NoneBegins W.fits W.spelling (drop c.loop.at c.args.bytes.now) = rw take_rest at (rw c.in_default-2.is at c.in_ok-value.ensures) in
    let small : c.in-Some.count < 2 ^ 32 = omega (arith, c.if-count-from.false, c.from.ensures, g.MAX.fits) in
    no_item g.row.MAX W.fits W.spelling g.met.W.Wire.alone c.args.bytes.now c.in-Some.count c.loop.list c.loop.at small inv.read inv.fits.each (omega (arith, inv.count)) none

pub returns-in-Err-Full : goal.returns-in-Err-Full
returns-in-Err-Full g c =
    let W = g.W.Wire in
    let inv = c.loop.invariant in
    let begins : BeginsWith W.fits W.spelling (drop c.loop.at c.args.bytes.now) c.in-Some-2.value c.in-Some-2.size = rw take_rest at (rw c.in-Some-2.is at c.in_ok-value.ensures) in
    let small : c.in-Some.count < 2 ^ 32 = omega (arith, c.if-count-from.false, c.from.ensures, g.MAX.fits) in
    let within : c.in-Some.count ≤ g.row.MAX = omega (arith, c.if-count-from.false, c.from.ensures) in
    let which : (c.in-Err-Full.field-0 ≡ Full) ⊎ (c.in-Err-Full.field-0 ≡ TooLong) = search rules in
    item_refused g.row.MAX W.fits W.spelling g.met.W.Wire.alone c.args.bytes.now c.in-Some.count c.loop.list c.loop.at c.in-Some-2.value c.in-Some-2.size c.in-Err-Full.field-0 small within inv.read inv.fits.each (omega (arith, inv.count)) begins which c.in-Err-Full.ensures.reason
