-- What contracts see of a store, and what it keeps between calls.
use Rattle.std.specs.Prelude.{◌≡◌, ℕ, Bool, true, false, List}
use Rattle.wm_disk.specs.declared.disk.Disk as disks
use Rattle.wm_registry.specs.declared.command.Command.{Command}
use Rattle.wm_registry.specs.Roots.{State}
use Rattle.wm_store.specs.Meant.{MeansAfter, MeansRegistry}

-- the disk, the registry, whether a call was answered 13, whether it was closed, the number of the slot in use, and how many bytes
-- its journal has left for commands, each with its gate
pub record Stored (D : Type 0) : Type 0 where
  pub disk : D
  pub registry : State
  pub failed : Bool
  pub closed : Bool
  pub number : ℕ
  pub room : ℕ

-- Every content that a crash may leave means the registry, or, once a call has failed, that after a prefix of some commands.
pub record IsStored {D : Type 0} (disk : disks.Ghosts D) (store : Stored D) : Type 0 where
  pub means : store.failed ≡ false → disk.honest store.disk → (c : List ℕ) → disk.may_leave store.disk c → MeansRegistry store.registry c
  pub failed : store.failed ≡ true → disk.honest store.disk → (further : List Command) × ((c : List ℕ) → disk.may_leave store.disk c → MeansAfter store.registry further c)
