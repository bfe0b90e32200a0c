-- How a registry moves from a file of version 1 into one of version 2, and what a crash leaves of the two files.
use Rattle.std.specs.Prelude.{◌≡◌, ◌≢◌, ◌⊎◌, ◌≤◌, ◌∷◌, ℕ, List, [], Result, OnOk, IfErr, IsErrOf}
use Rattle.wm_disk.specs.Calls.{EachLeft}
use Rattle.wm_disk.specs.Contents.{Rose, overwritten}
use Rattle.wm_disk.specs.Moments.{LeavesOnly}
use Rattle.wm_disk.specs.declared.disk.Disk as disks
use Rattle.wm_disk.specs.declared.refusal.Refusal.{Refusal}
use Rattle.wm_disk.specs.declared.refusal.Refusal.TheVariants.{DeviceFailed}
use Rattle.wm_journal.specs.Records.{open_gate}
use Rattle.wm_checkpoint.specs.FirstFile.{IsFirstFile}
use Rattle.wm_checkpoint.specs.Layout.{retired_place, sizes_1, sizes_2}
use Rattle.wm_checkpoint.specs.Meanings.{IsDamaged, IsRetired, Means, slot_bytes}
use Rattle.wm_checkpoint.specs.declared.layout.Slot.TheVariants.{A}
use Rattle.wm_registry.specs.MachineLaws.{watches}
use Rattle.wm_registry.specs.Roots.{State, in_version_2}
use Rattle.wm_registry.specs.declared.version.Version.TheVariants.{One, Two}
use Rattle.wm_store.specs.Meant.{MeansRegistry}

-- Neither is there a registry to move, nor was one moved before: the old file is damaged in version 1; or it is retired, and the new one
-- means no registry in version 2.
abbrev pub HaveNoRegistry : List ℕ → List ℕ → Type 0
HaveNoRegistry old new = IsDamaged (watches One) old ⊎ (IsRetired sizes_1 old × ((s : State) → s.version ≡ Two → MeansRegistry s new → ⊥))

module _ {D : Type 0} (disk : disks.Ghosts D) where
  -- every content that a crash may leave of the new file has the registry in slot A, under number 1, with no command behind it
  abbrev pub HoldsMoved : D → State → Type 0
  HoldsMoved new s = EachLeft disk new (λ c. Means (watches Two) c A 1 (in_version_2 s) [])

  -- The old file's content means the registry; or the old file is retired, and then every content of the new one means it.
  abbrev pub IsMeantByOldOrNew : D → State → List ℕ → Type 0
  IsMeantByOldOrNew new s content = MeansRegistry s content ⊎ (IsRetired sizes_1 content × HoldsMoved new s)

  -- every content that a crash may leave of the old file is retired
  abbrev pub StaysRetired : D → Type 0
  StaysRetired old = EachLeft disk old (IsRetired sizes_1)

  -- Both files read as before, and a crash at any moment leaves of both what one before might have left.
  pub record WritesNeither (old new old_after new_after : D) : Type 0 where
    pub old_seen : disk.seen old_after ≡ disk.seen old
    pub new_seen : disk.seen new_after ≡ disk.seen new
    pub old_left : LeavesOnly disk.moment disk.left_since old old_after (disk.may_leave old)
    pub new_left : LeavesOnly disk.moment disk.left_since new new_after (disk.may_leave new)

  -- Old was read. From then on a crash leaves an old file that means the registry that was read; or a retired one, and then each content
  -- that a crash may leave of new at the call's end means it. Since any further call on new might fail and leave it torn, new means it from
  -- before the write that retires old.
  pub record MovesOnly (old old_after new_after : D) : Type 0 where
    pub registry : State
    pub version : registry.version ≡ One
    pub meant : MeansRegistry registry (disk.seen old)
    pub read : D
    pub until : LeavesOnly disk.moment disk.left_since old read (disk.may_leave old)
    pub from : LeavesOnly disk.moment disk.left_since read old_after (IsMeantByOldOrNew new_after registry)

  -- a crash at any moment of a migration leaves no other two files
  abbrev pub MigratesOnly : D → D → D → D → Type 0
  MigratesOnly old new old_after new_after = WritesNeither old new old_after new_after ⊎ MovesOnly old old_after new_after

  -- of the old file nothing but the retired gate was written
  abbrev pub HasGateAlone : D → D → Type 0
  HasGateAlone old old_after = disk.seen old_after ≡ overwritten (disk.seen old) retired_place (open_gate ∷ [])

  -- the new file is as a format makes it, with the registry in slot A
  abbrev pub IsAsFormatted : D → State → Type 0
  IsAsFormatted new s = IsFirstFile sizes_2 (slot_bytes (watches Two).state 1 (in_version_2 s)) (disk.seen new)

  -- For private clauses: what a move of the registry has done.
  pub record HasMoved (old old_after new_after : D) (s : State) : Type 0 where
    pub holds : HoldsMoved new_after s
    pub first : IsAsFormatted new_after s
    pub retired : StaysRetired old_after
    pub gate : HasGateAlone old old_after

  -- The registry that old meant stands in new, and old is retired, both durably.
  pub record MovesNow (old old_after new_after : D) : Type 0 where
    pub moves : MovesOnly old old_after new_after
    pub holds : HoldsMoved new_after moves.registry
    pub first : IsAsFormatted new_after moves.registry
    pub retired : StaysRetired old_after
    pub gate : HasGateAlone old old_after

  -- It was moved before: old is retired, and new means a registry, both durably. Nothing is written.
  pub record WasMoved (old new old_after new_after : D) : Type 0 where
    pub was : IsRetired sizes_1 (disk.seen old)
    pub writes : WritesNeither old new old_after new_after
    pub retired : StaysRetired old_after
    pub registry : State
    pub version : registry.version ≡ Two
    pub means : EachLeft disk new_after (MeansRegistry registry)

  -- a migration that is done
  abbrev pub IsMigrated : D → D → D → D → Type 0
  IsMigrated old new old_after new_after = MovesNow old old_after new_after ⊎ WasMoved old new old_after new_after

  -- A call on two disks, which may be refused.
  pub record CallsBoth {T : Type 0} (old new old_after new_after : D) (result : Result T Refusal) : Type 0 where
    -- each is honest after the call only where it was before
    pub honest : (disk.honest old_after → disk.honest old) × (disk.honest new_after → disk.honest new)
    -- no count of failures falls
    pub failures_grow : (disk.failures old ≤ disk.failures old_after) × (disk.failures new ≤ disk.failures new_after)
    -- where the call succeeds neither disk failed in it
    pub no_failure : OnOk result ((disk.failures old_after ≡ disk.failures old) × (disk.failures new_after ≡ disk.failures new))
    -- `13 DeviceFailed` comes only where the count of one rose
    pub failed : IsErrOf result DeviceFailed → Rose (disk.failures old) (disk.failures old_after) ⊎ Rose (disk.failures new) (disk.failures new_after)
    -- and another refusal only where both are as before
    pub failures_kept : IfErr result (λ e. e ≢ DeviceFailed → (disk.failures old_after ≡ disk.failures old) × (disk.failures new_after ≡ disk.failures new))
