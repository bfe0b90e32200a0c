use Rattle.std.proofs.Common.{◌≡◌, Some, None, position, sym, ap, ◌∙◌, arith}
use Rattle.wm_triggers.specs.Definitions.{has_name, without_definition}
use Rattle.wm_triggers.proofs.Naming.{apart-without, without-at, without-none}
use Rattle.wm_triggers.proofs.defined_triggers.DefinedTriggers.remove.Goals as goal

pub invariant_of-self : goal.invariant_of-self
invariant_of-self c =
    let found : position (has_name c.args.name.now) c.self.inside.all.items ≡ Some c.in-Some.place = cc in
    let at = without-at c.args.name.now c.self.inside.all.items c.in-Some.place c.remove.result found in
    (rw (c.remove.ensures.items, ← at) (apart-without c.args.name.now c.self.inside.all.items c.self.invariant.0), omega (arith, c.self.invariant.1, c.remove.ensures.capacity))

pub returns-in-Some : goal.returns-in-Some
returns-in-Some c =
    let found : position (has_name c.args.name.now) c.self.inside.all.items ≡ Some c.in-Some.place = cc in
    let at = without-at c.args.name.now c.self.inside.all.items c.in-Some.place c.remove.result found in
    c.remove.ensures.items ∙ sym at ∙ ap (without_definition c.args.name.now) c.self.view_is

pub returns-in_default : goal.returns-in_default
returns-in_default c =
    let none : position (has_name c.args.name.now) c.self.inside.all.items ≡ None = cc in
    sym (ap (without_definition c.args.name.now) (sym c.self.view_is) ∙ without-none c.args.name.now c.self.inside.all.items none ∙ c.self.view_is)
