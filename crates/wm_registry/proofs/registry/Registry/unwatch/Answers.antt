use Rattle.std.proofs.Common.{sym, arith}
use Rattle.wm_registry.specs.Roots.{State}
use Rattle.wm_registry.proofs.Changing.{root_placed, unwatched}
use Rattle.wm_registry.proofs.Lengths.{length-without_root}
use Rattle.wm_registry.proofs.registry.Registry.unwatch.Goals as goal

pub overflow_sub-self : goal.overflow_sub-self
overflow_sub-self c =
    let s : State = record { version = c.self.inside.version; incarnation = c.self.inside.incarnation; next = c.self.inside.next; roots = c.self.inside.roots.entries } in
    omega (arith, c.self.invariant.1, c.root_size.ensures.exact, length-without_root s c.args.path.now c.in-Some.root (sym c.in-Some.ensures.value))

pub invariant_of-self : goal.invariant_of-self
invariant_of-self c =
    let s : State = record { version = c.self.inside.version; incarnation = c.self.inside.incarnation; next = c.self.inside.next; roots = c.self.inside.roots.entries } in
    unwatched s c.args.path.now c.in-Some.root _ c.self.inside.size c.root_size.result c.self.invariant.0 c.self.invariant.1 (sym c.in-Some.ensures.value) c.root_size.ensures.exact c.in-Some.ensures.entries

pub root_size-requires : goal.root_size-requires
root_size-requires c =
    let s : State = record { version = c.self.inside.version; incarnation = c.self.inside.incarnation; next = c.self.inside.next; roots = c.self.inside.roots.entries } in
    root_placed s c.args.path.now c.in-Some.root (sym c.in-Some.ensures.value) c.self.invariant.0
