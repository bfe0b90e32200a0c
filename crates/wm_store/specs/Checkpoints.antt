-- What a checkpoint of a store does.
use Rattle.std.specs.Prelude.{◌≡◌, ◌+◌, false, []}
use Rattle.wm_disk.specs.Calls.{EachLeft, LeavesAtAnyMoment}
use Rattle.wm_disk.specs.declared.disk.Disk as disks
use Rattle.wm_checkpoint.specs.Meanings.{Means}
use Rattle.wm_checkpoint.specs.Numbers.{IsNumberedTo}
use Rattle.wm_registry.specs.Versions.{sizes_of}
use Rattle.wm_checkpoint.specs.declared.layout.Slot.{Slot}
use Rattle.wm_registry.specs.MachineLaws.{watches}
use Rattle.wm_store.specs.Room.{journal_room}
use Rattle.wm_store.specs.Meant.{MeansRegistry}
use Rattle.wm_store.specs.Stored.{Stored}

module _ {D : Type 0} (disk : disks.Ghosts D) where
  -- The registry was put into the other slot.
  pub record IsCheckpointed (old new : Stored D) : Type 0 where
    -- every content that a crash may leave has the registry in that slot, and no command behind it
    pub in_new_slot : disk.honest new.disk → (slot : Slot) × EachLeft disk new.disk (λ c. Means (watches new.registry.version) c slot new.number new.registry [])
    pub number : new.number ≡ old.number + 1
    pub room : new.room ≡ journal_room
    pub open_yet : new.closed ≡ false

  -- A checkpoint of a store that hasn't failed.
  pub record IsMeantThroughout (old new : Stored D) : Type 0 where
    -- a crash at any moment of it leaves the registry
    pub any_moment : LeavesAtAnyMoment disk old.disk new.disk (λ c. MeansRegistry old.registry c)
    -- the number that it raises is that of what every content means that a crash before it may leave
    pub counted : disk.honest old.disk → EachLeft disk old.disk (λ c. (m : MeansRegistry old.registry c) × (m.number ≡ old.number))
    -- no slot that stands open in what a crash may leave then has a greater number than the next
    pub numbered : disk.honest new.disk → EachLeft disk new.disk (λ c. IsNumberedTo (sizes_of old.registry.version) (old.number + 1) c)
