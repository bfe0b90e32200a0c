-- What a state file means of a registry: in a file of the registry's version.
use Rattle.std.specs.Prelude.{◌≤◌, ℕ, List, length, take}
use Rattle.wm_checkpoint.specs.Machines.{replayed}
use Rattle.wm_checkpoint.specs.Meanings.{IsDamaged, IsRetired, MeansState}
use Rattle.wm_registry.specs.declared.command.Command.{Command}
use Rattle.wm_registry.specs.MachineLaws.{watches}
use Rattle.wm_registry.specs.Registry.{after_command}
use Rattle.wm_registry.specs.Roots.{State}
use Rattle.wm_registry.specs.Versions.{sizes_of}
use Rattle.wm_registry.specs.declared.version.Version.{Version}

-- The content means this registry.
abbrev pub MeansRegistry : State → List ℕ → Type 0
MeansRegistry s content = MeansState (watches s.version) s content

-- the content means a registry in no version, and its file is retired in none
abbrev pub IsDamagedFile : List ℕ → Type 0
IsDamagedFile content = (v : Version) → IsDamaged (watches v) content

-- the content is that of a retired file of some version
abbrev pub IsRetiredFile : List ℕ → Type 0
IsRetiredFile content = (v : Version) × IsRetired (sizes_of v) content

-- The content means the registry after a prefix of the commands.
pub record MeansAfter (s : State) (commands : List Command) (content : List ℕ) : Type 0 where
  pub count : ℕ
  pub within : count ≤ length commands
  pub means : MeansRegistry (replayed after_command s (take count commands)) content
