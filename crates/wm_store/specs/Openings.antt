-- How a store is opened, and why and how it isn't.
use Rattle.std.specs.Prelude.{◌≡◌, ◌≢◌, ◌⊎◌, ◌≤◌, ◌<◌, ◌+◌, ℕ, [], ◌∷◌}
use Rattle.wm_disk.specs.Calls.{EachLeft}
use Rattle.wm_disk.specs.Counters.{max_counter}
use Rattle.wm_disk.specs.declared.disk.Disk as disks
use Rattle.wm_disk.specs.declared.refusal.Refusal.{Refusal}
use Rattle.wm_disk.specs.declared.refusal.Refusal.TheVariants.{Damaged, DeviceFailed, Exhausted, NoMemory, Retired}
use Rattle.wm_disk.specs.Moments.{LeavesOnly}
use Rattle.wm_journal.specs.Records.{taken}
use Rattle.wm_registry.specs.Commands.{command_spelling}
use Rattle.wm_registry.specs.declared.command.Command.TheVariants.{Begin}
use Rattle.wm_registry.specs.declared.reply.Reply.TheVariants.{Changed, Refused}
use Rattle.wm_registry.specs.Registry.{after_command, reply_to}
use Rattle.wm_registry.specs.Roots.{State}
use Rattle.wm_registry.specs.Versions.{sizes_of}
use Rattle.wm_checkpoint.specs.Numbers.{IsNumberedTo}
use Rattle.wm_store.specs.Meant.{IsDamagedFile, IsRetiredFile, MeansAfter, MeansRegistry}
use Rattle.wm_store.specs.Room.{journal_room, begin_len}
use Rattle.wm_store.specs.Stored.{Stored}

-- From old to new the registry was found that old means. There is a moment between the two: until it a crash leaves what one before
-- old might have left, and from it on that registry, or that with one more Begin.
pub record FindsRegistry {D : Type 0} (disk : disks.Ghosts D) (old new : D) (found : State) : Type 0 where
  pub means : MeansRegistry found (disk.seen old)
  pub synced : D
  pub until : LeavesOnly disk.moment disk.left_since old synced (disk.may_leave old)
  pub from : LeavesOnly disk.moment disk.left_since synced new (MeansAfter found (Begin ∷ []))

-- A store was opened: it has the registry that was found with one more Begin. Where the journal of the slot found has room for the Begin
-- behind its commands, it stands there; only where it hasn't does a checkpoint come first.
pub record IsBegun {D : Type 0} (disk : disks.Ghosts D) (old : D) (store : Stored D) : Type 0 where
  pub found : State
  pub changed : reply_to found Begin ≡ Changed
  pub registry : store.registry ≡ after_command found Begin
  pub opened : FindsRegistry disk old store.disk found
  pub number : store.number ≤ opened.means.number + 1
  pub stays : taken (command_spelling found.version) opened.means.commands + begin_len ≤ journal_room → (store.number ≡ opened.means.number) × (store.room + taken (command_spelling found.version) opened.means.commands + begin_len ≡ journal_room)
  pub moves : journal_room < taken (command_spelling found.version) opened.means.commands + begin_len → (store.number ≡ opened.means.number + 1) × (store.room + begin_len ≡ journal_room)

module _ {D : Type 0} (disk : disks.Ghosts D) (old new : D) where
  -- a crash at any moment leaves what one before might have left
  abbrev pub WritesNothing : Type 0
  WritesNothing = LeavesOnly disk.moment disk.left_since old new (disk.may_leave old)

  -- a registry was found, and every content that a crash may leave then means it
  abbrev pub MeansFound : Type 0
  MeansFound = (found : State) × MeansRegistry found (disk.seen old) × EachLeft disk new (λ c. MeansRegistry found c)

  -- a registry was found, and at no moment a `Begin` behind it was in flight
  abbrev pub StaysFound : Type 0
  StaysFound = (found : State) × MeansRegistry found (disk.seen old) × LeavesOnly disk.moment disk.left_since old new (λ c. disk.may_leave old c ⊎ MeansRegistry found c)

  -- Why an opening is refused so.
  pub record IsRefusedFor (refusal : Refusal) : Type 0 where
    pub damaged : refusal ≡ Damaged → IsDamagedFile (disk.seen old)
    pub retired : refusal ≡ Retired → IsRetiredFile (disk.seen old)
    -- the incarnation of the registry that was found is spent, or the slot's number is
    pub exhausted : refusal ≡ Exhausted → (found : State) × (m : MeansRegistry found (disk.seen old)) × ((reply_to found Begin ≡ Refused Exhausted) ⊎ (max_counter ≤ m.number))

  -- What an opening that is refused so leaves.
  pub record IsLeftBy (refusal : Refusal) : Type 0 where
    -- until the first sync has succeeded a crash leaves what it might have left before
    pub cut : WritesNothing ⊎ ((found : State) × FindsRegistry disk old new found)
    -- only a failure of the device leaves a `Begin` in flight
    pub unbegun : refusal ≢ DeviceFailed → WritesNothing ⊎ MeansFound
    -- the registry is found also where its `Begin` is refused, and none is in flight at any moment
    pub refused : refusal ≡ Exhausted → MeansFound
    pub still : refusal ≡ Exhausted → StaysFound
    -- nor is one when out of memory, behind a checkpoint too, where the registry was found
    pub short : refusal ≡ NoMemory → WritesNothing ⊎ StaysFound
    -- the other refusals leave the disk as it reads
    pub seen : refusal ≢ DeviceFailed → refusal ≢ NoMemory → disk.seen new ≡ disk.seen old
    -- no slot that stands open in what a crash may leave then has a number that rose by more
    pub numbered : (s : State) → MeansRegistry s (disk.seen old) → (n : ℕ) → EachLeft disk old (λ c. IsNumberedTo (sizes_of s.version) n c) → EachLeft disk new (λ c. IsNumberedTo (sizes_of s.version) (n + 1) c)
