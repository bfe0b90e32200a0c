-- What a call promises of the store that it works on, whatever it does there.
use Rattle.std.specs.Prelude.{◌≡◌, ◌⊎◌, true, false, OnOk, IsErrOf, Result}
use Rattle.wm_disk.specs.Calls.{Calls, CallsWith, EachLeft}
use Rattle.wm_disk.specs.declared.disk.Disk as disks
use Rattle.wm_disk.specs.declared.refusal.Refusal.{Refusal}
use Rattle.wm_disk.specs.declared.refusal.Refusal.TheVariants.{DeviceFailed, NoMemory, StoreFailed}
use Rattle.wm_checkpoint.specs.Numbers.{IsNumberedTo}
use Rattle.wm_registry.specs.Versions.{sizes_of}
use Rattle.wm_store.specs.Meant.{MeansRegistry}
use Rattle.wm_store.specs.Stored.{Stored}

-- a call was answered 13, or the store was closed
abbrev pub IsOver : {D : Type 0} → Stored D → Type 0
IsOver store = (store.failed ≡ true) ⊎ (store.closed ≡ true)

module _ {D : Type 0} (disk : disks.Ghosts D) where
  -- A call on a store, which may be refused.
  pub record CallsStore {T : Type 0} (old new : Stored D) (result : Result T Refusal) : Type 0 where
    -- what it does to the store's disk
    pub device : Calls disk old.disk new.disk result
    -- where it succeeds the store works on
    pub works : OnOk result (new.failed ≡ false)
    -- after `13 DeviceFailed` it doesn't
    pub failed : IsErrOf result DeviceFailed → new.failed ≡ true
    -- `16 NoMemory` leaves all as it was
    pub memory : IsErrOf result NoMemory → new ≡ old
    -- and so does `12 StoreFailed`, which comes only of a store that is over
    pub down : IsErrOf result StoreFailed → IsOver old × (new ≡ old)
    -- and comes of each such store
    pub stays_down : IsOver old → IsErrOf result StoreFailed

  -- A call that takes a disk over for a store, and hands it back with a refusal.
  abbrev pub CallsForStore : D → Result (Stored D) (Refusal × D) → Type 0
  CallsForStore old result = CallsWith disk (λ (store : Stored D). store.disk) old result

  -- A store that takes commands.
  pub record IsWorking (store : Stored D) : Type 0 where
    pub up : store.failed ≡ false
    pub open_yet : store.closed ≡ false
    -- every content that a crash may leave means its registry
    pub means : disk.honest store.disk → EachLeft disk store.disk (λ c. MeansRegistry store.registry c)
    -- and no slot that stands open there has a greater number
    pub numbered : disk.honest store.disk → EachLeft disk store.disk (λ c. IsNumberedTo (sizes_of store.registry.version) store.number c)
