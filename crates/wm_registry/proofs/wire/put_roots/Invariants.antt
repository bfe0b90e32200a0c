use Rattle.std.proofs.Common.{◌≡◌, ◌++◌, length, take, flat_map}
use Rattle.wm_registry.specs.Spelling.{root_spelling}
use Rattle.wm_registry.proofs.wire.put_roots.Given as goal

abbrev pub invariant-loop-path : goal.invariant-loop-path
invariant-loop-path l = record {
  whole : l.out.items ++ flat_map (root_spelling l.version) l.path-iterator ≡ l.fn.out.items ++ flat_map (root_spelling l.version) l.roots.entries;
  front : take (length l.fn.out.items) l.out.items ≡ l.fn.out.items;
}
