-- For private clauses: how the next incarnation of a registry is begun.
use Rattle.std.specs.Prelude.{◌≡◌, ◌≢◌, ◌⊎◌, ◌≤◌, ◌<◌, ◌+◌, ℕ, false, [], ◌∷◌, OnOk, IfErr, Result}
use Rattle.wm_disk.specs.Calls.{Calls, EachLeft, LeavesAtAnyMoment}
use Rattle.wm_disk.specs.Counters.{max_counter}
use Rattle.wm_disk.specs.declared.disk.Disk as disks
use Rattle.wm_disk.specs.declared.refusal.Refusal.{Refusal}
use Rattle.wm_disk.specs.declared.refusal.Refusal.TheVariants.{DeviceFailed, Exhausted}
use Rattle.wm_registry.specs.declared.command.Command.TheVariants.{Begin}
use Rattle.wm_registry.specs.declared.reply.Reply.TheVariants.{Changed, Refused}
use Rattle.wm_registry.specs.Registry.{after_command, reply_to}
use Rattle.wm_registry.specs.MachineLaws.{watches_in}
use Rattle.wm_checkpoint.specs.Meanings.{MeansState, MeansPrefix}
use Rattle.wm_checkpoint.specs.Numbers.{IsNumberedTo}
use Rattle.wm_checkpoint.specs.Kept.{disk_of, state_of, has_failed, slot_number_of, room_left, Keeps}
use Rattle.wm_store.specs.Room.{journal_room, begin_len}
use Rattle.wm_store.specs.Stored.{Stored}
use Rattle.wm_store.specs.UnderWay.{K, AreCalls}
use Rattle.wm_registry.specs.declared.version.Version.{Version}
use Rattle.wm_checkpoint.specs.Layout.{Sizes}

module _ {D M V : Type 0} (disk : disks.Ghosts D) (l : Sizes) (v : Version) where
  -- Calls of the keeper with at most so many checkpoints, which may be refused.
  pub record CallsKeeper {T : Type 0} (checkpoints : ℕ) (old new : K M V disk) (result : Result T Refusal) : Type 0 where
    pub kept : Keeps (watches_in l v) new
    pub calls : AreCalls disk l v checkpoints old new
    pub device : Calls disk (disk_of old) (disk_of new) result
    -- it works on, unless the device failed
    pub works : OnOk result (has_failed new ≡ false)
    pub unfailed : IfErr result (λ e. e ≢ DeviceFailed → has_failed new ≡ false)

  -- The state is the same, and a crash at any moment leaves it.
  pub record StandsStill (old new : K M V disk) : Type 0 where
    pub state : state_of new ≡ state_of old
    pub any_moment : LeavesAtAnyMoment disk (disk_of old) (disk_of new) (λ c. MeansState (watches_in l v) (state_of old) c)

  -- The journal has room for a `Begin`, behind a checkpoint where it had none.
  pub record HasRoomForBegin (old new : K M V disk) : Type 0 where
    pub room : begin_len ≤ room_left new
    pub moves : room_left old < begin_len → (slot_number_of new ≡ slot_number_of old + 1) × (room_left new ≡ journal_room)

  -- The state has one `Begin` more, which stands in the journal of the slot in use where there was room for it, and else in the other's.
  pub record HasBegun (old new : K M V disk) : Type 0 where
    pub state : state_of new ≡ after_command (state_of old) Begin
    pub changed : reply_to (state_of old) Begin ≡ Changed
    pub stays : begin_len ≤ room_left old → (slot_number_of new ≡ slot_number_of old) × (room_left new + begin_len ≡ room_left old)
    pub moves : room_left old < begin_len → (slot_number_of new ≡ slot_number_of old + 1) × (room_left new + begin_len ≡ journal_room)

  -- a crash at any moment leaves the state, or that with one `Begin` more
  abbrev pub LeavesBegun : K M V disk → D → Type 0
  LeavesBegun old new = LeavesAtAnyMoment disk (disk_of old) new (λ c. MeansPrefix (watches_in l v) (state_of old) (Begin ∷ []) c)

  -- the `Begin` is refused, or it needs a checkpoint and the slot's number is spent
  abbrev pub IsSpent : K M V disk → Type 0
  IsSpent keeper = (reply_to (state_of keeper) Begin ≡ Refused Exhausted) ⊎ (max_counter ≤ slot_number_of keeper)

  -- The same of a store that was made of the keeper.
  pub record IsBegunFrom (keeper : K M V disk) (store : Stored D) : Type 0 where
    pub registry : store.registry ≡ after_command (state_of keeper) Begin
    pub changed : reply_to (state_of keeper) Begin ≡ Changed
    pub number : store.number ≤ slot_number_of keeper + 1
    pub stays : begin_len ≤ room_left keeper → (store.number ≡ slot_number_of keeper) × (store.room + begin_len ≡ room_left keeper)
    pub moves : room_left keeper < begin_len → (store.number ≡ slot_number_of keeper + 1) × (store.room + begin_len ≡ journal_room)
    pub any_moment : LeavesBegun keeper store.disk

  -- What is left of the keeper's disk by a refusal to begin.
  pub record IsUnbegun (keeper : K M V disk) (refusal : Refusal) (new : D) : Type 0 where
    pub cut : LeavesBegun keeper new
    pub unbegun : disk.honest new → refusal ≢ DeviceFailed → EachLeft disk new (λ c. MeansState (watches_in l v) (state_of keeper) c)
    pub still : refusal ≢ DeviceFailed → LeavesAtAnyMoment disk (disk_of keeper) new (λ c. MeansState (watches_in l v) (state_of keeper) c)
    pub exhausted : refusal ≡ Exhausted → IsSpent keeper × (new ≡ disk_of keeper)
    pub numbered : disk.honest new → (n : ℕ) → slot_number_of keeper ≤ n → EachLeft disk (disk_of keeper) (λ c. IsNumberedTo l n c) → EachLeft disk new (λ c. IsNumberedTo l (n + 1) c)
