-- For private clauses: a batch under way.
use Rattle.std.specs.Prelude.{◌≡◌, ◌⊎◌, ◌+◌, ◌≤◌, ◌<◌, ℕ, true, false, List, [], ◌∷◌, ◌++◌, if◌then◌else◌, map, length, take, Option, Some, None, OnErr, OnOk, Result, Vec, vec_len, vec_capacity}
use Rattle.std.specs.Global.{Global}
use Rattle.std.specs.Option.{unwrap_or}
use Rattle.wm_disk.specs.Contents.{Rose}
use Rattle.wm_disk.specs.declared.disk.Disk as disks
use Rattle.wm_disk.specs.declared.refusal.Refusal.{Refusal}
use Rattle.wm_disk.specs.declared.refusal.Refusal.TheVariants.{BadArguments, Exhausted, NoMemory}
use Rattle.wm_disk.specs.Moments.{LeavesOnly}
use Rattle.wm_disk.specs.Counters.{max_counter}
use Rattle.wm_journal.specs.Records.{taken}
use Rattle.wm_registry.specs.Commands.{command_spelling}
use Rattle.wm_registry.specs.declared.command.Command.{Command}
use Rattle.wm_registry.specs.declared.reply.Reply.{Reply}
use Rattle.wm_registry.specs.declared.reply.Reply.TheVariants.{Refused}
use Rattle.wm_registry.specs.Roots.{State}
use Rattle.wm_registry.specs.Registry.{after_command, changes, is_change, reply_to}
use Rattle.wm_registry.specs.MachineLaws.{watches_in}
use Rattle.wm_checkpoint.specs.Machines.{AllChange, replayed}
use Rattle.wm_checkpoint.specs.Meanings.{MeansPrefix}
use Rattle.wm_checkpoint.specs.Numbers.{IsNumberedTo}
use Rattle.wm_checkpoint.specs.Kept.{disk_of, state_of, has_failed, slot_number_of, room_left, Keeps}
use Rattle.wm_checkpoint.specs.declared.keeper.Keeper.{Keeper}
use Rattle.wm_store.specs.Batches.{IsMet, IsOutOfMemory, IsWithoutRoom, AreAnswered, accepted_of, in_batch, is_begin, after_reply, unless_begin}
use Rattle.wm_store.specs.Room.{journal_room}
use Rattle.wm_store.specs.declared.batch.Batch.{Batch}
use Rattle.wm_registry.specs.declared.version.Version.{Version}
use Rattle.wm_checkpoint.specs.Layout.{Sizes}

-- ---- replies

-- Each command is met in the state that those before it leave.
abbrev pub AreMet : State → List Command → List Reply → Type 0
AreMet s [] [] = Unit {0}
AreMet s [] (reply ∷ replies) = ⊥
AreMet s (command ∷ commands) [] = ⊥
AreMet s (command ∷ commands) (reply ∷ replies) = IsMet s command reply × AreMet (after_reply s command reply) commands replies

-- the replies from a command on for which the slot's number is spent
abbrev pub spent : List Command → List Reply
spent commands = map (λ c. unless_begin c (Refused Exhausted)) commands

-- The same, up to such a command.
abbrev pub AreSpent : Version → ℕ → ℕ → State → List Command → List Reply → Type 0
AreSpent v number room s [] replies = ⊥
AreSpent v number room s (command ∷ commands) [] = ⊥
AreSpent v number room s (command ∷ commands) (reply ∷ replies) =
    (IsMet s command reply × AreSpent v number room (after_reply s command reply) commands replies)
    ⊎ (IsWithoutRoom v number room command × (is_change (in_batch s command) ≡ true) × (reply ∷ replies ≡ spent (command ∷ commands)))

-- the reply in place of another, where memory ran out
abbrev pub refused_for_memory : Reply → Reply
refused_for_memory (Refused BadArguments) = Refused BadArguments
refused_for_memory reply = Refused NoMemory

-- The replies so far, and why the rest is refused.
abbrev pub IsSoFar : {V : Type 0} → Version → ℕ → ℕ → State → List Command → Batch V → Type 0
IsSoFar v number room s done batch =
    ((batch.refused ≡ None) × AreMet s done batch.replies.items)
    ⊎ ((batch.refused ≡ Some NoMemory) × AreMet s done batch.replies.items)
    ⊎ ((batch.refused ≡ Some Exhausted) × (batch.group.items ≡ []) × AreSpent v number room s done batch.replies.items)

-- ---- a batch

-- There is room for one command more.
pub record HasRoom {V : Type 0} (batch : Batch V) : Type 0 where
  pub replies : vec_len batch.replies < vec_capacity batch.replies
  pub group : vec_len batch.replies < vec_capacity batch.group

-- no room was given up
pub record KeepsRoom {V : Type 0} (old new : Batch V) : Type 0 where
  pub replies : vec_capacity old.replies ≤ vec_capacity new.replies
  pub group : vec_capacity old.group ≤ vec_capacity new.group

-- The first commands were met one after another, and none of them is accepted; there is room for the replies to all.
pub record AreIdle (registry : State) (commands : List Command) (replies : Vec Reply Global) : Type 0 where
  pub within : vec_len replies ≤ length commands
  pub met : AreMet registry (take (vec_len replies) commands) replies.items
  pub none : accepted_of (take (vec_len replies) commands) replies.items ≡ []
  pub room : vec_capacity replies ≡ length commands

-- a batch of which only these replies are given yet
pub record IsNew {V : Type 0} (registry : State) (idle : Vec Reply Global) (len : ℕ) (batch : Batch V) : Type 0 where
  pub next : batch.next ≡ registry
  pub group : batch.group.items ≡ []
  pub size : batch.size ≡ 0
  pub replies : batch.replies ≡ idle
  pub first : batch.first ≡ 0
  pub refused : batch.refused ≡ None
  pub before : batch.before ≡ None
  pub group_len : vec_len batch.group ≡ 0
  pub group_room : vec_capacity batch.group ≡ len

abbrev pub with_command : List Command → Command → Reply → List Command
with_command group command reply = if is_change reply then group ++ (command ∷ []) else group

-- one command more was met
pub record IsPushed {V : Type 0} (v : Version) (command : Command) (reply : Reply) (old new : Batch V) : Type 0 where
  pub next : new.next ≡ old.next
  pub group : new.group.items ≡ with_command old.group.items command reply
  pub size : new.size ≡ old.size + taken (command_spelling v) (with_command [] command reply)
  pub replies : new.replies.items ≡ old.replies.items ++ (reply ∷ [])
  pub first : new.first ≡ old.first
  pub refused : new.refused ≡ old.refused
  pub before : new.before ≡ old.before
  pub len : vec_len new.replies ≡ vec_len old.replies + 1
  pub group_len : vec_len new.group ≤ vec_len new.replies
  pub room : KeepsRoom old new

-- a keeper of such a registry
abbrev pub K : {D : Type 0} → Type 0 → Type 0 → disks.Ghosts D → Type 0
K {D} M V disk = Keeper D M V State Command Reply disk

module _ {D M V : Type 0} (disk : disks.Ghosts D) (l : Sizes) (v : Version) where
  -- The keeper can commit the batch's group.
  pub record IsReady (keeper : K M V disk) (batch : Batch V) : Type 0 where
    pub kept : Keeps (watches_in l v) keeper
    pub whole : has_failed keeper ≡ false
    pub version : batch.next.version ≡ v
    pub accepted : AllChange after_command changes (state_of keeper) batch.group.items
    pub next : batch.next ≡ replayed after_command (state_of keeper) batch.group.items
    pub size : batch.size ≡ taken (command_spelling v) batch.group.items
    pub fits : batch.size ≤ room_left keeper
    pub len : vec_len batch.group ≤ vec_len batch.replies

  -- No checkpoint was made: of these commands all but those left went into the journal.
  pub record IsSpared (old : K M V disk) (commands : List Command) (new : K M V disk) (left : List Command) : Type 0 where
    pub number : slot_number_of new ≡ slot_number_of old
    pub room : room_left new + taken (command_spelling v) commands ≡ room_left old + taken (command_spelling v) left

  -- None was made since start, of the commands accepted all but those left went into the journal; or they didn't fit there, or memory ran out.
  abbrev pub IsSparing : K M V disk → List Command → List Reply → K M V disk → List Command → Type 0
  IsSparing start done replies keeper left =
      IsSpared start (accepted_of done replies) keeper left ⊎ (room_left start < taken (command_spelling v) (accepted_of done replies)) ⊎ IsOutOfMemory replies

  -- From start on these commands were met: some are committed, and the group is to be.
  pub record IsPast (start : K M V disk) (done : List Command) (keeper : K M V disk) (batch : Batch V) : Type 0 where
    pub committed : List Command
    pub led : state_of keeper ≡ replayed after_command (state_of start) committed
    pub len : length done ≡ length batch.replies.items
    pub accepted : accepted_of done batch.replies.items ≡ committed ++ batch.group.items
    pub first : batch.first ≤ length batch.replies.items
    pub front : accepted_of (take batch.first done) (take batch.first batch.replies.items) ≡ committed
    pub before : (batch.before ≡ Some (state_of start)) ⊎ ((batch.before ≡ None) × (committed ≡ []))
    pub run : disk.honest (disk_of keeper) → LeavesOnly disk.moment disk.left_since (disk_of start) (disk_of keeper) (MeansPrefix (watches_in l v) (state_of start) committed)

  -- The device failed behind these commands and replies, and this is the state before the batch where it isn't the keeper's.
  pub record IsCut (start : K M V disk) (done : List Command) (replies : List Reply) (keeper : K M V disk) (before : Option State) : Type 0 where
    pub was : unwrap_or before (state_of keeper) ≡ state_of start
    pub run : disk.honest (disk_of keeper) → LeavesOnly disk.moment disk.left_since (disk_of start) (disk_of keeper) (MeansPrefix (watches_in l v) (state_of start) (accepted_of done replies))

  -- All commands were met.
  pub record IsDone (start : K M V disk) (commands : List Command) (keeper : K M V disk) (replies : List Reply) : Type 0 where
    pub answered : AreAnswered v (slot_number_of keeper) (room_left keeper) (state_of start) commands replies
    pub led : state_of keeper ≡ replayed after_command (state_of start) (accepted_of commands replies)
    pub run : disk.honest (disk_of keeper) → LeavesOnly disk.moment disk.left_since (disk_of start) (disk_of keeper) (MeansPrefix (watches_in l v) (state_of start) (accepted_of commands replies))
    pub idle : accepted_of commands replies ≡ [] → (keeper ≡ start) ⊎ IsOutOfMemory replies
    pub slot : IsSparing start commands replies keeper []

  -- Calls of the keeper, with at most so many checkpoints.
  pub record AreCalls (checkpoints : ℕ) (old new : K M V disk) : Type 0 where
    pub least : slot_number_of old ≤ slot_number_of new
    pub most : slot_number_of new ≤ slot_number_of old + checkpoints
    pub honest : disk.honest (disk_of new) → disk.honest (disk_of old)
    pub later : disk.failures (disk_of old) ≤ disk.failures (disk_of new)
    -- no number of an open slot rises by more
    pub numbered : disk.honest (disk_of new) → (n : ℕ) → slot_number_of old ≤ n → ((c : List ℕ) → disk.may_leave (disk_of old) c → IsNumberedTo l n c)
        → (c : List ℕ) → disk.may_leave (disk_of new) c → IsNumberedTo l (n + checkpoints) c

  pub record IsWhole (old new : K M V disk) : Type 0 where
    pub kept : Keeps (watches_in l v) new
    pub up : has_failed new ≡ false
    pub count : disk.failures (disk_of new) ≡ disk.failures (disk_of old)

  pub record WentDown (old new : K M V disk) : Type 0 where
    pub kept : Keeps (watches_in l v) new
    pub down : has_failed new ≡ true
    pub rose : Rose (disk.failures (disk_of old)) (disk.failures (disk_of new))

  -- Calls of the keeper for the batch: where they go well it works, and where they fail the device has failed.
  pub record UsesKeeper {T E : Type 0} (checkpoints : ℕ) (old new : K M V disk) (result : Result T E) : Type 0 where
    pub calls : AreCalls checkpoints old new
    pub whole : OnOk result (IsWhole old new)
    pub down : OnErr result (WentDown old new)

  -- ---- the steps of a batch

  -- No command more was met: the registry and the replies are the same, and the keeper can commit the batch's group.
  pub record IsUnmoved (old_keeper : K M V disk) (old : Batch V) (keeper : K M V disk) (new : Batch V) : Type 0 where
    pub ready : IsReady keeper new
    pub same : (new.next ≡ old.next) × (new.replies ≡ old.replies)
    pub room : KeepsRoom old new
    pub past : (start : K M V disk) (done : List Command) → IsPast start done old_keeper old → IsPast start done keeper new

  -- This command was met too, and got this reply; the keeper can commit the batch's group.
  pub record IsMetToo (command : Command) (old_keeper : K M V disk) (old : Batch V) (keeper : K M V disk) (new : Batch V) : Type 0 where
    pub ready : IsReady keeper new
    pub reply : Reply
    pub replies : new.replies.items ≡ old.replies.items ++ (reply ∷ [])
    pub len : vec_len new.replies ≡ vec_len old.replies + 1
    pub room : KeepsRoom old new
    -- without a command accepted and one behind it that found no memory, the keeper made no call
    pub idle : is_change reply ≡ false → old.group.items ≡ [] → (keeper ≡ old_keeper) ⊎ (reply ≡ Refused NoMemory)
    -- what was known of the commands before it is known with it
    pub past : (start : K M V disk) (done : List Command) → IsPast start done old_keeper old → IsPast start (done ++ (command ∷ [])) keeper new
    pub so_far : (start : K M V disk) (done : List Command) → IsPast start done old_keeper old → IsSoFar v (slot_number_of old_keeper) (room_left old_keeper) (state_of start) done old
        → IsSoFar v (slot_number_of keeper) (room_left keeper) (state_of start) (done ++ (command ∷ [])) new
    pub slot : (start : K M V disk) (done : List Command) → IsPast start done old_keeper old → IsSparing start done old.replies.items old_keeper old.group.items
        → IsSparing start (done ++ (command ∷ [])) new.replies.items keeper new.group.items

  -- The device failed behind the commands that were met before.
  abbrev pub IsCutBehind : K M V disk → Batch V → K M V disk → Option State → Type 0
  IsCutBehind old_keeper old keeper before = (start : K M V disk) (done : List Command) → IsPast start done old_keeper old → IsCut start done old.replies.items keeper before

  -- It failed for this command, which the registry accepts.
  pub record IsCutFor (command : Command) (old_keeper : K M V disk) (old : Batch V) (keeper : K M V disk) (new : Batch V) : Type 0 where
    pub cut : IsCutBehind old_keeper old keeper new.before
    pub open_yet : old.refused ≡ None
    pub plain : is_begin command ≡ false
    pub accepted : is_change (reply_to old.next command) ≡ true

  -- It failed at the end of the batch, which had a group left.
  pub record IsCutAtEnd (old_keeper : K M V disk) (batch : Batch V) (keeper : K M V disk) (before : Option State) : Type 0 where
    pub cut : IsCutBehind old_keeper batch keeper before
    pub some : batch.group.items ≡ [] → ⊥

  -- The registry is to be asked for this command: nothing was called for it, or the journal had no room for it behind the group; it has room
  -- for it now, where the registry accepts it.
  pub record IsAsked (command : Command) (old_keeper : K M V disk) (old : Batch V) (keeper : K M V disk) (new : Batch V) : Type 0 where
    pub open_yet : new.refused ≡ None
    pub was_open : old.refused ≡ None
    pub plain : is_begin command ≡ false
    pub spared : ((keeper ≡ old_keeper) × (new.group ≡ old.group)) ⊎ ((is_change (reply_to old.next command) ≡ true) × (room_left old_keeper < taken (command_spelling v) (old.group.items ++ (command ∷ []))))
    pub fits : is_change (reply_to old.next command) ≡ true → taken (command_spelling v) (new.group.items ++ (command ∷ [])) ≤ room_left keeper

  -- The group was committed, without a checkpoint; or the rest of the batch is refused when out of memory.
  abbrev pub IsGroupDone : K M V disk → Batch V → K M V disk → Batch V → Type 0
  IsGroupDone old_keeper old keeper new =
      ((new.refused ≡ None) × (new.group.items ≡ []) × IsSpared old_keeper old.group.items keeper [])
      ⊎ (new.refused ≡ Some NoMemory)

  -- Of any commands that were met so far all are met now, with these replies.
  abbrev pub IsFinished : K M V disk → Batch V → K M V disk → List Reply → Type 0
  IsFinished old_keeper batch keeper replies =
      (start : K M V disk) (commands : List Command) → IsPast start commands old_keeper batch → IsSoFar v (slot_number_of old_keeper) (room_left old_keeper) (state_of start) commands batch
      → (accepted_of commands batch.replies.items ≡ [] → (old_keeper ≡ start) ⊎ IsOutOfMemory batch.replies.items)
      → IsSparing start commands batch.replies.items old_keeper batch.group.items → IsDone start commands keeper replies

  -- The device failed in a batch of these commands: one of them had been accepted.
  pub record IsCutBatch (start : K M V disk) (commands : List Command) (keeper : K M V disk) (before : Option State) : Type 0 where
    pub replies : List Reply
    pub met : AreMet (state_of start) commands replies
    pub cut : IsCut start commands replies keeper before
    pub some : accepted_of commands replies ≡ [] → ⊥

  -- There is room for a first command in a new slot; or why the rest of the batch is refused.
  abbrev pub IsRoomMade : K M V disk → Batch V → K M V disk → Batch V → Type 0
  IsRoomMade old_keeper old keeper new =
      ((new.refused ≡ None) × (new.group.items ≡ []) × (room_left keeper ≡ journal_room))
      ⊎ ((new.refused ≡ Some NoMemory) × (old.group.items ≡ [] → keeper ≡ old_keeper))
      ⊎ ((new.refused ≡ Some Exhausted) × (new.group.items ≡ []) × (max_counter ≤ slot_number_of keeper) × (old.group.items ≡ [] → keeper ≡ old_keeper) × IsSpared old_keeper old.group.items keeper [])

  -- why a command is refused before the registry is asked
  abbrev pub IsRefused : Command → K M V disk → Batch V → K M V disk → Batch V → Refusal → Type 0
  IsRefused command old_keeper old keeper new refusal =
      ((is_begin command ≡ true) × (refusal ≡ BadArguments) × (keeper ≡ old_keeper) × (new ≡ old))
      ⊎ ((is_begin command ≡ false) × (refusal ≡ NoMemory) × (new.refused ≡ Some NoMemory) × ((old.refused ≡ None) ⊎ (old.refused ≡ Some NoMemory)) × (old.group.items ≡ [] → keeper ≡ old_keeper))
      ⊎ ((is_begin command ≡ false) × (refusal ≡ Exhausted) × (new.refused ≡ Some Exhausted) × (old.group.items ≡ [] → keeper ≡ old_keeper)
      × (((old.refused ≡ None) × (is_change (reply_to old.next command) ≡ true) × IsWithoutRoom v (slot_number_of keeper) (room_left keeper) command × (new.group.items ≡ []) × IsSpared old_keeper old.group.items keeper [])
      ⊎ ((old.refused ≡ Some Exhausted) × (keeper ≡ old_keeper) × (new.group ≡ old.group))))
