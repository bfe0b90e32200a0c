-- What a contract sees of the book.
use Rattle.std.specs.Prelude.{List}
use Rattle.wm_registry.specs.Roots.{State}
use Rattle.wm_store.specs.Stored.{Stored}
use Rattle.wm_groupcommit.specs.declared.queued.Call.{Call}

-- the registry that the desk found, the commands accepted since, and the store
pub record BookState (D : Type 0) : Type 0 where
  pub base : State
  pub list : List Call
  pub store : Stored D
