use Rattle.std.proofs.Common.{ℕ, ◌+◌, ◌∙◌, ap, sym, arith}
use Rattle.wm_registry.specs.declared.version.Version.TheVariants.{Two}
use Rattle.wm_registry.proofs.SecondVersion.{length-state, short_list, state_in_two}
use Rattle.wm_registry.proofs.registry.Registry.into_version_2.Goals as goal

pub roots_size-size-requires : goal.roots_size-size-requires
roots_size-size-requires c = omega (arith, short_list _ c.self.invariant.0)

pub overflow_add-size : goal.overflow_add-size
overflow_add-size c = omega (arith, c.roots_size-size.ensures, short_list _ c.self.invariant.0)

pub invariant_of-result : goal.invariant_of-result
invariant_of-result c = (state_in_two _ c.self.invariant.0, ap (λ (n : ℕ). 20 + n) c.roots_size-size.ensures ∙ sym (length-state (record { version = Two; incarnation = c.self.inside.incarnation; next = c.self.inside.next; roots = c.self.inside.roots.entries })))
