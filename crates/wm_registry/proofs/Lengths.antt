-- How many bytes the spelling of a state has once it is changed.
use Rattle.std.proofs.Common.{◌≡◌, ℕ, ◌+◌, ◌≤◌, List, [], ◌∷◌, ◌++◌, length, flat_map, Some, sym, ap, arith}
use Rattle.std.proofs.lemmas.List.{length-append}
use Rattle.std.proofs.lemmas.Grind.{flat_map-append}
use Rattle.std.specs.Str.{bytes_eq}
use Rattle.byteorder.specs.Endian.{big_bytes}
use Rattle.wm_wire.specs.Spelling.{text, list_spelling}
use Rattle.wm_registry.specs.declared.root.Root.{Root}
use Rattle.wm_registry.specs.declared.version.Version.{Version}
use Rattle.wm_registry.specs.Registry.{watched}
use Rattle.wm_registry.specs.Roots.{State, root_at, with_triggers, without_root}
use Rattle.wm_registry.specs.Spelling.{trigger_spelling, root_spelling, state_spelling}
use Rattle.wm_registry.specs.Triggers.{Definition}
use Rattle.wm_registry.proofs.Entries.{length-found, length-flat_map-set_value, length-flat_map-remove_entry}
use Rattle.wm_registry.proofs.Names.{same_bytes}

-- the spelling of a state's roots, behind three numbers
pub length-state : (s : State) → length (state_spelling s) ≡ 20 + length (flat_map (root_spelling s.version) s.roots)
length-state s = omega arith

-- the spelling of a root's path, its number, and its triggers
pub length-root : (v : Version) (path : List ℕ) (root : Root) → length (root_spelling v (path, root)) ≡ length (text path) + 8 + length (list_spelling (trigger_spelling v) root.triggers)
length-root v path root = omega (arith, length-append (text path) (big_bytes 8 root.number ++ list_spelling (trigger_spelling v) root.triggers))

-- a path more, with a number and no triggers
pub length-watched : (s : State) (path : List ℕ) → length (state_spelling (watched s path)) ≡ length (state_spelling s) + length (text path) + 12
length-watched s path =
    let root : Root = record { number = s.next; triggers = [] } in
    omega (arith, length-root s.version path root, ap length (flat_map-append (root_spelling s.version) s.roots ((path, root) ∷ [])), length-append (flat_map (root_spelling s.version) s.roots) (flat_map (root_spelling s.version) ((path, root) ∷ [])), length-append (root_spelling s.version (path, root)) [])

-- a root less
pub length-without_root : (s : State) (path : List ℕ) (root : Root) → root_at path s ≡ Some root → length (state_spelling (without_root s path)) + length (root_spelling s.version (path, root)) ≡ length (state_spelling s)
length-without_root s path root at =
    omega (arith, length-flat_map-remove_entry (bytes_eq path) (root_spelling s.version) s.roots root (length (root_spelling s.version (path, root))) at (λ k hit. ap (λ p. length (root_spelling s.version (p, root))) (sym (same_bytes path k hit))))

-- other triggers in the place of those of a root
pub length-with_triggers : (s : State) (path : List ℕ) (root : Root) (triggers : List Definition) → root_at path s ≡ Some root → length (state_spelling (with_triggers s path root triggers)) + length (list_spelling (trigger_spelling s.version) root.triggers) ≡ length (state_spelling s) + length (list_spelling (trigger_spelling s.version) triggers)
length-with_triggers s path root triggers at =
    let less = length (list_spelling (trigger_spelling s.version) root.triggers) in
    let more = length (list_spelling (trigger_spelling s.version) triggers) in
    let new : Root = record root { triggers = triggers } in
    omega (arith, length-flat_map-set_value (bytes_eq path) (root_spelling s.version) s.roots root new less more at (λ k. omega (arith, length-root s.version k root, length-root s.version k new)))

-- and those are a part of the whole
pub length-triggers : (s : State) (path : List ℕ) (root : Root) → root_at path s ≡ Some root → length (list_spelling (trigger_spelling s.version) root.triggers) ≤ length (state_spelling s)
length-triggers s path root at =
    omega (arith, length-found (bytes_eq path) (root_spelling s.version) s.roots root (length (list_spelling (trigger_spelling s.version) root.triggers)) at (λ k. omega (arith, length-root s.version k root)))
