-- The laws of `Machine` for the registry.
use Rattle.std.proofs.Common.{◌≡◌, ◌≢◌, true, false, ◌≤◌, length, refl, subst}
use Rattle.wm_registry.specs.Roots.{State}
use Rattle.wm_registry.specs.Registry.{after_command, changes}
use Rattle.wm_registry.specs.ChangeLaws.{accepted_changes}
use Rattle.wm_registry.specs.Commands.{IsCommand, command_spelling}
use Rattle.wm_registry.specs.Spelling.{IsStateIn, state_spelling}
use Rattle.wm_registry.specs.Versions.{max_state_bytes, sizes_of}
use Rattle.wm_registry.specs.declared.version.Version.{Version}
use Rattle.wm_checkpoint.specs.Layout.{Sizes}
use Rattle.wm_checkpoint.specs.Machines.{Meaning}
use Rattle.wm_registry.specs.declared.command.Command.{Command}

pub idle_registry : (s : State) (c : Command) → changes s c ≡ false → after_command s c ≡ s
idle_registry s c h = rw h refl

pub alive_registry : (v : Version) (s : State) (c : Command) → IsStateIn v s → changes s c ≡ true → after_command s c ≢ s
alive_registry v s c fits h = accepted_changes s c h

pub small_registry : (v : Version) (s : State) → IsStateIn v s → length (state_spelling s) ≤ max_state_bytes v
small_registry v s h = subst (λ w. length (state_spelling s) ≤ max_state_bytes w) h.version h.state.short

-- the registry as a machine in a file of such sizes: how its states and commands are spelled in the version, and what a command does
abbrev pub watches_in : Sizes → Version → Meaning State Command
watches_in sizes v = record {
  sizes = sizes;
  state = record { fits = IsStateIn v; spelling = state_spelling };
  command = record { fits = IsCommand v; spelling = command_spelling v };
  after = after_command;
  changes = changes;
}

-- in a file of the version
abbrev pub watches : Version → Meaning State Command
watches v = watches_in (sizes_of v) v
