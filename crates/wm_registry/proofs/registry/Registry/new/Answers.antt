-- A new registry is within the limits.
use Rattle.std.proofs.Common.{◌≡◌, ◌≤◌, ℕ, List, [], length, refl, arith}
use Rattle.std.specs.List.{IsDistinct}
use Rattle.wm_registry.specs.Registry.{empty_registry}
use Rattle.wm_registry.specs.Spelling.{IsState, state_spelling}
use Rattle.wm_registry.specs.declared.root.Root.{Root}
use Rattle.wm_registry.specs.Versions.{max_state_bytes}
use Rattle.wm_registry.specs.declared.version.Version.{Version}
use Rattle.wm_registry.specs.declared.version.Version.TheVariants.{One, Two}
use Rattle.wm_registry.proofs.registry.Registry.new.Goals as goal

-- either version has room for it
least : (v : Version) → 20 ≤ max_state_bytes v
least One = omega arith
least Two = omega arith

fresh_fits : (v : Version) → IsState (empty_registry v)
unfolding IsDistinct
fresh_fits v = record {
  incarnation = omega arith;
  some = omega arith;
  next = omega arith;
  roots = record { count = omega arith; below = omega arith; each = tt; short = omega arith };
  apart = record { below = tt; paths = tt; numbers = tt };
  short = omega (arith, least v);
}

fits_empty : (v : Version) (roots : List (List ℕ × Root)) → roots ≡ [] → IsState (record { version = v; incarnation = 0; next = 1; roots = roots }) × (20 ≡ length (state_spelling (record { version = v; incarnation = 0; next = 1; roots = roots })))
fits_empty v roots empty = rw empty (fresh_fits v, refl)

pub invariant_of-result : goal.invariant_of-result
invariant_of-result c = fits_empty c.args.version c.new.result.entries c.new.ensures.empty
