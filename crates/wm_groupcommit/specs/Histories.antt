-- The registry that the desk found, and the calls accepted since.
use Rattle.std.specs.Prelude.{Option, Some, None, List, []}
use Rattle.std.specs.declared.snapshot.Snapshot.{Snapshot}
use Rattle.wm_checkpoint.specs.Machines.{replayed}
use Rattle.wm_registry.specs.Registry.{after_command}
use Rattle.wm_registry.specs.Roots.{State}
use Rattle.wm_groupcommit.specs.declared.queued.Call.{Call}
use Rattle.wm_groupcommit.specs.Books.{commands_of}

pub record HistoryState : Type 0 where
  pub base : State
  pub list : List Call

-- the registry after all of these calls
abbrev pub last_state : HistoryState → State
last_state h = replayed after_command h.base (commands_of h.list)

-- the calls up to the last one, in their order
abbrev pub calls_to : Option (Snapshot (List Call)) → List Call
calls_to None = []
calls_to (Some s) = s.value
