-- The spellings of commands, and the limits outside which there is none.
use Rattle.std.specs.Prelude.{◌≡◌, ℕ, true, List, [], ◌∷◌, ◌++◌}
use Rattle.wm_wire.specs.Spelling.{text}
use Rattle.wm_registry.specs.PathSpelling.{IsPath}
use Rattle.wm_registry.specs.Spelling.{IsName, IsTrigger, trigger_spelling}
use Rattle.wm_registry.specs.Endings.{count_fits}
use Rattle.wm_registry.specs.declared.command.Command.{Command}
use Rattle.wm_registry.specs.declared.command.Command.TheVariants.{Begin, Watch, WatchDel, Trigger, TriggerDel}
use Rattle.wm_registry.specs.declared.version.Version.{Version}

-- a file of the version has a place for the command
abbrev pub FitsVersion : Version → Command → Type 0
FitsVersion v Begin = Unit {0}
FitsVersion v (Watch path) = Unit {0}
FitsVersion v (WatchDel path) = Unit {0}
FitsVersion v (Trigger path trigger) = count_fits v trigger.max_files_stdin ≡ true
FitsVersion v (TriggerDel path name) = Unit {0}

-- a command within its limits
abbrev pub IsCommand : Version → Command → Type 0
IsCommand v Begin = Unit {0}
IsCommand v (Watch path) = IsPath path
IsCommand v (WatchDel path) = IsPath path
IsCommand v (Trigger path trigger) = IsPath path × IsTrigger v trigger
IsCommand v (TriggerDel path name) = IsPath path × IsName name

abbrev pub command_spelling : Version → Command → List ℕ
command_spelling v Begin = 0 ∷ []
command_spelling v (Watch path) = 1 ∷ text path
command_spelling v (WatchDel path) = 2 ∷ text path
command_spelling v (Trigger path trigger) = 3 ∷ (text path ++ trigger_spelling v trigger)
command_spelling v (TriggerDel path name) = 4 ∷ (text path ++ text name)
