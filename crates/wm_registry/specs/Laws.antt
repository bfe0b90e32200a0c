-- What holds of every registry, whatever the commands are.
use Rattle.std.specs.Prelude.{◌≡◌, ◌≢◌, ◌↔◌, true, false, List, ◌++◌}
use Rattle.wm_registry.specs.Commands.{FitsVersion}
use Rattle.wm_registry.specs.declared.command.Command.{Command}
use Rattle.wm_registry.specs.MachineLaws.{watches}
use Rattle.wm_registry.specs.Numbers.{InOrder, Rises}
use Rattle.wm_registry.specs.Registry.{after_command, changes, empty_registry}
use Rattle.wm_registry.specs.Roots.{State, in_version_2}
use Rattle.wm_registry.specs.Triggers.{Definition, same_definition}
use Rattle.wm_registry.specs.declared.version.Version.{Version}
use Rattle.wm_checkpoint.specs.Machines.{replay_on}

-- whatever comes, the numbers go on, so that none is given again: the next one is above each that a root has had
abbrev pub NumbersRise : Type 0
NumbersRise = (v : Version) (cs ds : List Command) → Rises (replay_on (watches v) (empty_registry v) cs) (replay_on (watches v) (empty_registry v) (cs ++ ds))

abbrev pub NumbersInOrder : Type 0
NumbersInOrder = (v : Version) (cs : List Command) → InOrder (replay_on (watches v) (empty_registry v) cs)

-- two triggers are defined in the same way where each part of the one is that of the other
abbrev pub SameIsEqual : Type 0
SameIsEqual = (a b : Definition) → (same_definition a b ≡ true) ↔ (a ≡ b)

-- a command that is accepted makes another state of the one that it meets
abbrev pub AcceptedChanges : Type 0
AcceptedChanges = (s : State) (c : Command) → changes s c ≡ true → after_command s c ≢ s

-- one that is refused, or that changes nothing, leaves it
abbrev pub OthersLeave : Type 0
OthersLeave = (s : State) (c : Command) → changes s c ≡ false → after_command s c ≡ s

-- no command makes a registry of another version of one
abbrev pub VersionStays : Type 0
VersionStays = (s : State) (c : Command) → (after_command s c).version ≡ s.version

-- one that is accepted has a place in a file of the version
abbrev pub AcceptedArePlaced : Type 0
AcceptedArePlaced = (s : State) (c : Command) → changes s c ≡ true → FitsVersion s.version c

-- one that is accepted is accepted in version 2 too, and does the same there
abbrev pub AcceptedInVersion2 : Type 0
AcceptedInVersion2 = (s : State) (c : Command) → changes s c ≡ true → (changes (in_version_2 s) c ≡ true) × (after_command (in_version_2 s) c ≡ in_version_2 (after_command s c))
