use Rattle.std.proofs.Common.{drop}
use Rattle.std.proofs.lemmas.List.{take_rest}
use Rattle.wm_wire.specs.Spelling.{BeginsWith, NoneBegins}
use Rattle.wm_wire.proofs.Pairs.{no_second, pair_too_long}
use Rattle.wm_wire.proofs.pair.PairWire.take.Goals as goal

pub returns-in_default-2 : goal.returns-in_default-2
returns-in_default-2 g c =
    let A = g.A.Wire in
    let B = g.B.Wire in
    let first : BeginsWith A.fits A.spelling c.args.bytes.now c.in-Some.first c.in-Some.first_size = rw c.in-Some.is at c.in_ok-first.ensures in
    let none : NoneBegins B.fits B.spelling (drop c.in-Some.first_size c.args.bytes.now) = rw take_rest at (rw c.in_default-2.is at c.in_ok-second.ensures) in
    no_second A.fits A.spelling B.fits B.spelling g.met.A.Wire.alone c.args.bytes.now c.in-Some.first c.in-Some.first_size first none

pub returns : goal.returns
returns g c =
    let A = g.A.Wire in
    let B = g.B.Wire in
    let first : BeginsWith A.fits A.spelling c.args.bytes.now c.in-Some.first c.in-Some.first_size = rw c.in-Some.is at c.in_ok-first.ensures in
    let second : BeginsWith B.fits B.spelling (drop c.in-Some.first_size c.args.bytes.now) c.in-Some-2.second c.in-Some-2.second_size = rw take_rest at (rw c.in-Some-2.is at c.in_ok-second.ensures) in
    pair_too_long A.fits A.spelling B.fits B.spelling g.met.A.Wire.alone g.met.B.Wire.alone c.args.bytes.now c.in-Some.first c.in-Some.first_size c.in-Some-2.second c.in-Some-2.second_size first second (rw c.in-Err.is at c.new.ensures.too_long)
