use Rattle.std.proofs.Common.{◌≡◌, Some, None, position, sym, ap, ◌∙◌, arith}
use Rattle.wm_triggers.specs.Definitions.{has_name, is_defined, with_definition}
use Rattle.wm_triggers.proofs.Naming.{apart-with, on_err, undefined, with-at, with-none}
use Rattle.wm_triggers.proofs.defined_triggers.DefinedTriggers.define.Goals as goal

pub invariant_of-self : goal.invariant_of-self
invariant_of-self c =
    let found : position (has_name c.args.trigger.name) c.self.inside.all.items ≡ Some c.in-Some.place = cc in
    let at = with-at (record { number = c.args.number; trigger = c.args.trigger }) c.self.inside.all.items c.in-Some.place found in
    (rw (← at) (apart-with (record { number = c.args.number; trigger = c.args.trigger }) c.self.inside.all.items c.self.invariant.0), c.self.invariant.1)

pub invariant_of-self-in-Continue-1 : goal.invariant_of-self-in-Continue-1
invariant_of-self-in-Continue-1 c =
    let none : position (has_name c.args.trigger.name) c.self.inside.all.items ≡ None = cc in
    let last = with-none (record { number = c.args.number; trigger = c.args.trigger }) c.self.inside.all.items none in
    (rw (c.in_ok-push-in-None.ensures.items, ← last) (apart-with (record { number = c.args.number; trigger = c.args.trigger }) c.self.inside.all.items c.self.invariant.0), omega (arith, c.self.invariant.1, c.push.ensures.capacity))

pub returns-in_err-push-in-None-clause-other : goal.returns-in_err-push-in-None-clause-other
returns-in_err-push-in-None-clause-other c =
    let none : position (has_name c.args.trigger.name) c.self.inside.all.items ≡ None = cc in
    on_err c.from_residual.result (ap (is_defined c.args.trigger.name) (sym c.self.view_is) ∙ undefined c.args.trigger.name c.self.inside.all.items none)

pub returns-in-Some-clause-ok : goal.returns-in-Some-clause-ok
returns-in-Some-clause-ok c =
    let found : position (has_name c.args.trigger.name) c.self.inside.all.items ≡ Some c.in-Some.place = cc in
    let at = with-at (record { number = c.args.number; trigger = c.args.trigger }) c.self.inside.all.items c.in-Some.place found in
    sym at ∙ ap (with_definition (record { number = c.args.number; trigger = c.args.trigger })) c.self.view_is

pub returns-in_ok-push-in-None-clause-ok : goal.returns-in_ok-push-in-None-clause-ok
returns-in_ok-push-in-None-clause-ok c =
    let none : position (has_name c.args.trigger.name) c.self.inside.all.items ≡ None = cc in
    let last = with-none (record { number = c.args.number; trigger = c.args.trigger }) c.self.inside.all.items none in
    c.in_ok-push-in-None.ensures.items ∙ sym last ∙ ap (with_definition (record { number = c.args.number; trigger = c.args.trigger })) c.self.view_is
