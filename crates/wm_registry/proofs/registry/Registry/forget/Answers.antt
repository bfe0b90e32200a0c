use Rattle.std.proofs.Common.{sym, arith}
use Rattle.wm_registry.specs.Roots.{State}
use Rattle.wm_registry.proofs.Changing.{IsState-forgotten, changed_triggers, placed_still, root_placed}
use Rattle.wm_registry.proofs.Lengths.{length-triggers}
use Rattle.wm_registry.proofs.registry.Registry.forget.Goals as goal

pub overflow_sub-self : goal.overflow_sub-self
overflow_sub-self c =
    let s : State = record { version = c.self.inside.version; incarnation = c.self.inside.incarnation; next = c.self.inside.next; roots = c.self.inside.roots.entries } in
    omega (arith, c.self.invariant.1, c.triggers_size-before.ensures.exact, length-triggers s c.args.path.now c.in-Some.root.now (sym c.in-Some.ensures.value))

pub invariant_of-self : goal.invariant_of-self
invariant_of-self c =
    let s : State = record { version = c.self.inside.version; incarnation = c.self.inside.incarnation; next = c.self.inside.next; roots = c.self.inside.roots.entries } in
    let at = sym c.in-Some.ensures.value in
    changed_triggers s c.args.path.now c.in-Some.root.now c.forget.new.triggers _ c.self.inside.size c.triggers_size-before.result c.triggers_size.result c.self.invariant.1 at
    (IsState-forgotten s c.args.path.now c.as_str.result.now c.in-Some.root.now c.forget.new.triggers at c.self.invariant.0 c.forget.ensures c.triggers_size.ensures.fits)
    c.triggers_size-before.ensures.exact c.triggers_size.ensures.exact (c.get_mut.follows.holds _).0

pub triggers_size-before-requires : goal.triggers_size-before-requires
triggers_size-before-requires c =
    let s : State = record { version = c.self.inside.version; incarnation = c.self.inside.incarnation; next = c.self.inside.next; roots = c.self.inside.roots.entries } in
    root_placed s c.args.path.now c.in-Some.root.now (sym c.in-Some.ensures.value) c.self.invariant.0

pub triggers_size-requires : goal.triggers_size-requires
triggers_size-requires c =
    let s : State = record { version = c.self.inside.version; incarnation = c.self.inside.incarnation; next = c.self.inside.next; roots = c.self.inside.roots.entries } in
    placed_still s c.args.path.now c.as_str.result.now c.in-Some.root.now c.forget.new.triggers (sym c.in-Some.ensures.value) c.self.invariant.0 c.forget.ensures
