-- The versions of the state file, as a registry has them.
use Rattle.std.specs.Prelude.{ℕ}
use Rattle.wm_checkpoint.specs.Layout.{Sizes, sizes_1, sizes_2}
use Rattle.wm_registry.specs.declared.version.Version.{Version}
use Rattle.wm_registry.specs.declared.version.Version.TheVariants.{One, Two}

-- how the parts of its file lie
abbrev pub sizes_of : Version → Sizes
sizes_of One = sizes_1
sizes_of Two = sizes_2

-- the most bytes of a registry's spelling
abbrev pub max_state_bytes : Version → ℕ
max_state_bytes v = (sizes_of v).max_state_bytes
