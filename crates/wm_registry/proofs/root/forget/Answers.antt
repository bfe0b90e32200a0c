use Rattle.std.proofs.Common.{◌≡◌, None, position, sym, ◌∙◌}
use Rattle.wm_registry.specs.Triggers.{is_named}
use Rattle.wm_registry.proofs.Named.{without-at, without-none}
use Rattle.wm_registry.proofs.root.forget.Goals as goal

pub returns-in-Some : goal.returns-in-Some
returns-in-Some c =
    let at = without-at c.args.name.now c.args.triggers.now c.in-Some.place c.remove.result cc in
    c.remove.ensures.items ∙ sym at

pub returns-in_default : goal.returns-in_default
returns-in_default c =
    let none : position (is_named c.args.name.now) c.args.triggers.now ≡ None = cc in
    sym (without-none c.args.name.now c.args.triggers.now none)
