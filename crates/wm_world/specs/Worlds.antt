-- A world: what is kept of commands, the histories of the roots, and the clients. No disk and no program stands in it.
use Rattle.std.specs.Prelude.{ℕ, ◌-◌, Bool, false, ◌&&◌, cond, List, [], ◌∷◌, map, nat_le, ◌==◌, Option, None}
use Rattle.std.specs.List.{find, range_with_len}
use Rattle.std.specs.Option.{option_map_or}
use Rattle.wm_disk.specs.Counters.{max_counter}
use Rattle.wm_names.specs.Paths.{Path}
use Rattle.wm_names.specs.declared.entry.Entry.{Entry}
use Rattle.wm_expr.specs.declared.expr.Expr.{Expr}
use Rattle.wm_expr.specs.Meanings.{holds}
use Rattle.wm_expr.specs.Views.{term}
use Rattle.wm_registry.specs.declared.command.Command.{Command}
use Rattle.wm_registry.specs.declared.reply.Reply.{Reply}
use Rattle.wm_registry.specs.Registry.{after_command, empty_registry}
use Rattle.wm_registry.specs.Roots.{State, root_at}
use Rattle.wm_view.specs.Histories.{History, new_history}
use Rattle.wm_since.specs.Clients.{closed, new_client}
use Rattle.wm_world.specs.declared.connection.Connection.{Connection}
use Rattle.wm_checkpoint.specs.Machines.{replayed}
use Rattle.wm_registry.specs.declared.version.Version.{Version}
use Rattle.wm_registry.specs.declared.version.Version.TheVariants.{One, Two}

-- how far a migration is: there is no other disk into which the file could be migrated; it is to be begun, perhaps anew; it was cut, so that the file in
-- use may be retired; or it is done, and the file in use is the new one
pub data Stage : Type 0 where
  Alone : Stage
  Before : Stage
  Between : Stage
  After : Stage

pub record World : Type 0 where
  pub version : Version  -- of the state file in use
  pub stage : Stage
  pub kept : List Command  -- accepted and acknowledged, each Begin among them
  pub pending : List Command  -- accepted and in flight when the device failed: a restart finds a prefix of them
  pub up : Bool  -- the server is up
  pub replies : List Reply  -- those of the last batch that was done
  pub faults : ℕ  -- how often the disk in use has failed
  pub other_faults : ℕ  -- how often the disk that isn't in use has failed
  pub slot : ℕ  -- what the slot's number is at most
  pub histories : List History  -- of each incarnation and root number that was ever watched
  pub clients : List Connection

-- on a formatted file of the version
abbrev pub begun_on : Version → Stage → ℕ → ℕ → World
begun_on version stage faults other_faults =
    record { version = version; stage = stage; kept = []; pending = []; up = false; replies = []; faults = faults; other_faults = other_faults; slot = 1; histories = []; clients = [] }

-- on one of version 2, and no other disk
abbrev pub nothing_yet : ℕ → World
nothing_yet faults = begun_on Two Alone faults 0

-- on one of version 1, beside a disk into which it may be migrated
abbrev pub nothing_yet_of_two : ℕ → ℕ → World
nothing_yet_of_two faults other_faults = begun_on One Before faults other_faults

-- ---- the registry

-- the registry after these commands, which were accepted one after another in the version of the file at that time. A command that is
-- accepted in version 1 does the same in version 2
abbrev pub replay : List Command → State
replay commands = replayed after_command (empty_registry Two) commands

-- the same registry, in a file of the version
abbrev pub in_version : Version → State → State
in_version v s = record s { version = v }

-- that of the server, and while it is down that of what is kept for certain
abbrev pub registry : World → State
registry w = in_version w.version (replay w.kept)

-- a counter that can't rise
abbrev pub cannot_rise : ℕ → Bool
cannot_rise n = nat_le max_counter n

-- ---- histories

abbrev pub is_of : ℕ → ℕ → History → Bool
is_of incarnation root h = (h.incarnation == incarnation) && (h.root == root)

abbrev pub history_in : List History → ℕ → ℕ → Option History
history_in hs incarnation root = find (is_of incarnation root) hs

-- the history of the root that is watched at the path
abbrev pub live : World → Path → Option History
live w path = option_map_or (λ root. history_in w.histories (registry w).incarnation root.number) (root_at path (registry w)) None

-- each number that the commands gave away begins a history
abbrev pub begun_between : State → State → List History
begun_between old new = map (new_history new.incarnation) (range_with_len old.next (new.next - old.next))

-- a start begins one for each root
abbrev pub begun_all : State → List History
begun_all s = map (λ r. new_history s.incarnation r.1.number) s.roots

-- ---- clients

-- whether the client wants the entry
abbrev pub wants : Connection → Entry → Bool
wants c = holds (term c.mirror.test)

abbrev pub connected : Path → Expr → Connection
connected root test = record { mirror = new_client root test; answer = None }

-- the answer is lost, and the question closed
abbrev pub without_answer : Connection → Connection
without_answer c = record { mirror = closed c.mirror; answer = None }

-- the list with another in the place of the first that passes
abbrev pub at_first : {A : Type 0} → (A → Bool) → (A → A) → List A → List A
at_first test f [] = []
at_first test f (x ∷ xs) = cond (test x) (f x ∷ xs) (x ∷ at_first test f xs)
