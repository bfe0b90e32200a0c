use Rattle.std.proofs.Common.{◌≡◌, ◌+◌, length, flat_map}
use Rattle.wm_registry.specs.Spelling.{root_spelling}
use Rattle.wm_registry.specs.declared.version.Version.TheVariants.{Two}
use Rattle.wm_registry.proofs.moved.roots_size.Given as goal

abbrev pub invariant-loop-path : goal.invariant-loop-path
invariant-loop-path l = l.size + length (flat_map (root_spelling Two) l.path-iterator) ≡ length (flat_map (root_spelling Two) l.roots.entries)
