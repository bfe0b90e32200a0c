-- A registry's state, and its roots by path.
use Rattle.std.specs.Prelude.{ℕ, Bool, List, Option, drop, is_some}
use Rattle.std.specs.Map.{lookup, set_value, remove_entry}
use Rattle.std.specs.Str.{bytes_eq}
use Rattle.wm_registry.specs.declared.root.Root.{Root}
use Rattle.wm_registry.specs.Triggers.{Definition}
use Rattle.wm_registry.specs.declared.version.Version.{Version}
use Rattle.wm_registry.specs.declared.version.Version.TheVariants.{Two}

-- the version of the file that it is kept in, the incarnation, the next root number, and the roots by their paths, in order of watching
pub record State : Type 0 where
  pub version : Version
  pub incarnation : ℕ
  pub next : ℕ
  pub roots : List (List ℕ × Root)

-- the same registry, kept in a file of version 2
abbrev pub in_version_2 : State → State
in_version_2 s = record s { version = Two }

-- the root at the path
abbrev pub root_at : List ℕ → State → Option Root
root_at path s = lookup (bytes_eq path) s.roots

-- the path is that of a root
abbrev pub is_watched : List ℕ → State → Bool
is_watched path s = is_some (root_at path s)

-- the state with other triggers for the root at the path
abbrev pub with_triggers : State → List ℕ → Root → List Definition → State
with_triggers s path root triggers = record s { roots = set_value (bytes_eq path) s.roots (record root { triggers = triggers }) }

-- the state without the root at the path
abbrev pub without_root : State → List ℕ → State
without_root s path = record s { roots = remove_entry (bytes_eq path) s.roots }

-- the state without its first roots
abbrev pub without_first : ℕ → State → State
without_first count s = record s { roots = drop count s.roots }
