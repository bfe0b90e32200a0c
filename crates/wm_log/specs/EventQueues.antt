-- The events that wait to be written.
use Rattle.std.specs.Prelude.{◌++◌, ◌∷◌, ◌&&◌, Bool, List, [], length, nat_lt, if◌then◌else◌}
use Rattle.wm_log.specs.declared.event.Event.{Event}

-- the events in their order, and whether it takes any more
pub record WaitingEvents : Type 0 where
  pub events : List Event
  pub is_open : Bool

-- it is open, and not full
abbrev pub takes_event : WaitingEvents → Bool
takes_event queue = queue.is_open && nat_lt (length queue.events) 1024

-- an event stands behind the others, if it was taken
abbrev pub queued_event : Event → WaitingEvents → WaitingEvents
queued_event event queue = if takes_event queue then record queue { events = queue.events ++ event ∷ [] } else queue
