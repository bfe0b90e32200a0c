-- What a batch of commands is answered.
use Rattle.std.specs.Prelude.{◌≡◌, ◌⊎◌, ◌+◌, ◌≤◌, ◌<◌, ℕ, Bool, true, false, List, [], ◌∷◌, if◌then◌else◌, map}
use Rattle.wm_disk.specs.declared.refusal.Refusal.TheVariants.{BadArguments, Exhausted, NoMemory}
use Rattle.wm_disk.specs.declared.disk.Disk as disks
use Rattle.wm_disk.specs.Calls.{EachLeft, LeavesAtAnyMoment}
use Rattle.wm_disk.specs.Counters.{max_counter}
use Rattle.wm_journal.specs.Records.{taken}
use Rattle.wm_registry.specs.Commands.{command_spelling}
use Rattle.wm_registry.specs.declared.command.Command.{Command}
use Rattle.wm_registry.specs.declared.command.Command.TheVariants.{Begin, Watch, WatchDel, Trigger, TriggerDel}
use Rattle.wm_registry.specs.declared.reply.Reply.{Reply}
use Rattle.wm_registry.specs.declared.reply.Reply.TheVariants.{Refused}
use Rattle.wm_registry.specs.Roots.{State}
use Rattle.wm_registry.specs.Registry.{after_command, changed, is_change, reply_to}
use Rattle.wm_registry.specs.declared.version.Version.{Version}
use Rattle.wm_checkpoint.specs.Machines.{replayed}
use Rattle.wm_store.specs.Meant.{MeansAfter, MeansRegistry}
use Rattle.wm_store.specs.Stored.{Stored}

abbrev pub is_begin : Command → Bool
is_begin Begin = true
is_begin (Watch path) = false
is_begin (WatchDel path) = false
is_begin (Trigger path trigger) = false
is_begin (TriggerDel path name) = false

-- the reply, but an opening alone begins an incarnation
abbrev pub unless_begin : Command → Reply → Reply
unless_begin command reply = if is_begin command then Refused BadArguments else reply

-- how a command of a batch is met
abbrev pub in_batch : State → Command → Reply
in_batch s command = unless_begin command (reply_to s command)

-- It is met so; or it finds no memory, and changes nothing.
abbrev pub IsMet : State → Command → Reply → Type 0
IsMet s command reply = (reply ≡ in_batch s command) ⊎ (reply ≡ unless_begin command (Refused NoMemory))

-- the state after a command with this reply
abbrev pub after_reply : State → Command → Reply → State
after_reply s command reply = if is_change reply then changed s command else s

-- The command doesn't fit into what the journal of a file of the version has left, and the slot's number is spent.
abbrev pub IsWithoutRoom : Version → ℕ → ℕ → Command → Type 0
IsWithoutRoom v number room command = (max_counter ≤ number) × (room < taken (command_spelling v) (command ∷ []))

-- Each command is met in the state that those before it leave. One that the registry accepts, and for which a slot with this number and
-- room has no room and can't be left, is refused for that, with all behind it.
abbrev pub AreAnswered : Version → ℕ → ℕ → State → List Command → List Reply → Type 0
AreAnswered v number room s [] [] = Unit {0}
AreAnswered v number room s [] (reply ∷ replies) = ⊥
AreAnswered v number room s (command ∷ commands) [] = ⊥
AreAnswered v number room s (command ∷ commands) (reply ∷ replies) =
    (IsMet s command reply × AreAnswered v number room (after_reply s command reply) commands replies)
    ⊎ (IsWithoutRoom v number room command × (is_change (in_batch s command) ≡ true)
    × (reply ∷ replies ≡ map (λ c. unless_begin c (Refused Exhausted)) (command ∷ commands)))

-- those of the commands that changed the registry, by their replies
abbrev pub accepted_of : List Command → List Reply → List Command
accepted_of [] replies = []
accepted_of (command ∷ commands) [] = []
accepted_of (command ∷ commands) (reply ∷ replies) =
    if is_change reply then command ∷ accepted_of commands replies else accepted_of commands replies

-- memory ran out for one of the commands
abbrev pub IsOutOfMemory : List Reply → Type 0
IsOutOfMemory [] = ⊥
IsOutOfMemory (reply ∷ replies) = (reply ≡ Refused NoMemory) ⊎ IsOutOfMemory replies

module _ {D : Type 0} (disk : disks.Ghosts D) (old new : Stored D) (commands : List Command) (replies : List Reply) where
  -- A batch from old to new, with these replies; a crash at any moment of it leaves the registry after a prefix of those accepted.
  pub record IsBatch : Type 0 where
    pub answered : AreAnswered old.registry.version new.number new.room old.registry commands replies
    pub any_moment : LeavesAtAnyMoment disk old.disk new.disk (λ c. MeansAfter old.registry (accepted_of commands replies) c)

  -- A batch that was answered.
  pub record IsCommitted : Type 0 where
    pub batch : IsBatch
    pub registry : new.registry ≡ replayed after_command old.registry (accepted_of commands replies)
    pub open_yet : new.closed ≡ false
    -- every content that a crash may leave then means the registry
    pub means : disk.honest new.disk → EachLeft disk new.disk (λ c. MeansRegistry new.registry c)
    -- where none is accepted nothing was done, but for a checkpoint before a group that found no memory
    pub idle : accepted_of commands replies ≡ [] → (new ≡ old) ⊎ IsOutOfMemory replies
    -- unless memory ran out, no checkpoint was made for commands that the journal had room for
    pub slot : IsOutOfMemory replies ⊎ (taken (command_spelling old.registry.version) (accepted_of commands replies) ≤ old.room
        → (new.number ≡ old.number) × (new.room + taken (command_spelling old.registry.version) (accepted_of commands replies) ≡ old.room))
