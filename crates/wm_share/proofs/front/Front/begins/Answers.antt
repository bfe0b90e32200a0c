use Rattle.std.proofs.Common.{◌≤◌, ◌<◌, ap, sym, subst, arith, length, List, inr}
use mathlib.Core.List.{IsPrefix}
use Rattle.wm_share.specs.Logs.{operations_of}
use Rattle.wm_share.specs.declared.entry.Entry.{Entry}
use Rattle.wm_share.proofs.Logs.{begins_shorter}
use Rattle.wm_share.proofs.front.Front.begins.Goals as goal

pub returns-then-other-self : goal.returns-then-other-self
returns-then-other-self g c =
    let s = c.self.inside.share in let t = c.other.inside.share in
    let xs = c.self.inside.seen.log in let ys = c.other.inside.seen.log in
    let both = c.learn.new.self.log in
    let this : IsPrefix xs both = subst (λ (l : List Entry). IsPrefix l both) (ap (λ s. s.log) c.again-both.ensures) c.learn.ensures.2 in
    let less : length (operations_of t.number ys) < length (operations_of s.number xs) = omega (arith, c.self.invariant.0, c.other.invariant.0) in
    rw (← c.self.view_is, ← c.other.view_is) (inr (begins_shorter t s ys xs both (sym c.if-not-same.ensures) c.learn.ensures.3 this (omega arith), less))

pub returns : goal.returns
returns g c =
    let s = c.self.inside.share in let t = c.other.inside.share in
    let xs = c.self.inside.seen.log in let ys = c.other.inside.seen.log in
    let both = c.learn.new.self.log in
    let this : IsPrefix xs both = subst (λ (l : List Entry). IsPrefix l both) (ap (λ s. s.log) c.again-both.ensures) c.learn.ensures.2 in
    let less : length (operations_of s.number xs) ≤ length (operations_of t.number ys) = omega (arith, c.self.invariant.0, c.other.invariant.0) in
    rw (← c.self.view_is, ← c.other.view_is) (begins_shorter s t xs ys both c.if-not-same.ensures this c.learn.ensures.3 less)
