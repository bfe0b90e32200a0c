-- The registry: a state, what a command does to it, and how it is answered.
use Rattle.std.specs.Prelude.{ℕ, ◌+◌, Bool, true, false, List, [], ◌∷◌, ◌++◌, length, nat_lt, if◌then◌else◌}
use Rattle.std.specs.List.{list_any}
use Rattle.std.specs.Option.{option_map_or}
use Rattle.wm_disk.specs.declared.refusal.Refusal.TheVariants.{NotWatched, Full, Exhausted, TooMany, OldVersion}
use Rattle.wm_disk.specs.Counters.{max_counter}
use Rattle.wm_registry.specs.Endings.{count_fits}
use Rattle.wm_registry.specs.Limits.{max_roots, max_triggers}
use Rattle.wm_registry.specs.declared.command.Command.{Command}
use Rattle.wm_registry.specs.declared.command.Command.TheVariants.{Begin, Watch, WatchDel, Trigger, TriggerDel}
use Rattle.wm_registry.specs.declared.reply.Reply.{Reply}
use Rattle.wm_registry.specs.declared.reply.Reply.TheVariants.{Changed, Replaced, Unchanged, Refused}
use Rattle.wm_registry.specs.declared.root.Root.{Root}
use Rattle.wm_registry.specs.Roots.{State, root_at, is_watched, with_triggers, without_root}
use Rattle.wm_registry.specs.Spelling.{state_spelling}
use Rattle.wm_registry.specs.Triggers.{Definition, same_definition, has_trigger, defined, without}
use Rattle.wm_registry.specs.Versions.{max_state_bytes}
use Rattle.wm_registry.specs.declared.version.Version.{Version}

-- that of a new file of the version
abbrev pub empty_registry : Version → State
empty_registry v = record { version = v; incarnation = 0; next = 1; roots = [] }

-- the reply, where the spelling of the new state isn't too long
abbrev pub unless_full : State → Reply → Reply
unless_full new reply = if nat_lt (max_state_bytes new.version) (length (state_spelling new)) then Refused Full else reply

-- the state with one root more
abbrev pub watched : State → List ℕ → State
watched s path = record s { next = s.next + 1; roots = s.roots ++ (path, record { number = s.next; triggers = [] }) ∷ [] }

-- how a trigger for the root at the path is met: one with a number has no place in version 1
abbrev pub reply_to_trigger : State → List ℕ → Definition → Root → Reply
reply_to_trigger s path trigger root =
    let new = with_triggers s path root (defined trigger root.triggers) in
    if count_fits s.version trigger.max_files_stdin then (if list_any (same_definition trigger) root.triggers then Unchanged
    else (if has_trigger trigger.name root.triggers then unless_full new Replaced
    else (if nat_lt (length root.triggers) max_triggers then unless_full new Changed else Refused TooMany)))
    else Refused OldVersion

-- how a command is met: one that changes nothing is no fault, and of several refusals the first is given
abbrev pub reply_to : State → Command → Reply
reply_to s Begin = if nat_lt s.incarnation max_counter then Changed else Refused Exhausted
reply_to s (Watch path) =
    if is_watched path s then Unchanged
    else (if nat_lt (length s.roots) max_roots then (if nat_lt s.next max_counter then unless_full (watched s path) Changed else Refused Exhausted) else Refused TooMany)
reply_to s (WatchDel path) = if is_watched path s then Changed else Refused NotWatched
reply_to s (Trigger path trigger) = option_map_or (reply_to_trigger s path trigger) (root_at path s) (Refused NotWatched)
reply_to s (TriggerDel path name) =
    option_map_or (λ root. if has_trigger name root.triggers then Changed else Unchanged) (root_at path s) (Refused NotWatched)

-- the command is accepted
abbrev pub is_change : Reply → Bool
is_change Changed = true
is_change Replaced = true
is_change Unchanged = false
is_change (Refused r) = false

-- what a command that is accepted makes of the state
abbrev pub changed : State → Command → State
changed s Begin = record s { incarnation = s.incarnation + 1 }
changed s (Watch path) = watched s path
changed s (WatchDel path) = without_root s path
changed s (Trigger path trigger) = option_map_or (λ root. with_triggers s path root (defined trigger root.triggers)) (root_at path s) s
changed s (TriggerDel path name) = option_map_or (λ root. with_triggers s path root (without name root.triggers)) (root_at path s) s

-- the state after a command
abbrev pub after_command : State → Command → State
after_command s command = if is_change (reply_to s command) then changed s command else s

-- whether the command changes the state
abbrev pub changes : State → Command → Bool
changes s command = is_change (reply_to s command)
