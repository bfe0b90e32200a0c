-- What a command does to the views, once it is accepted.
use Rattle.wm_registry.specs.declared.command.Command.{Command}
use Rattle.wm_registry.specs.declared.command.Command.TheVariants as command
use Rattle.wm_registry.specs.Roots.{State}
use Rattle.wm_session.specs.session.Watched.{new_view, place_of}
use Rattle.wm_session.specs.declared.local.local_front.ViewChange.{ViewChange}
use Rattle.wm_session.specs.declared.local.local_front.ViewChange.TheVariants.{Begin, End, Nothing}

abbrev pub view_change_of : Command → State → ViewChange
view_change_of command.Begin s = Nothing
view_change_of (command.Watch path) s = Begin (new_view s.incarnation s.next)
view_change_of (command.WatchDel path) s = End (place_of path s.roots)
view_change_of (command.Trigger path trigger) s = Nothing
view_change_of (command.TriggerDel path name) s = Nothing
