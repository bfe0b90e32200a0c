-- What a call promises of the disk that it works on, whatever it does there.
use Rattle.std.specs.Prelude.{◌≡◌, ◌≢◌, ◌≤◌, ℕ, List, Result, IfOk, IfErr, OnOk, IsErrOf}
use Rattle.wm_disk.specs.Contents.{NoMore, Rose, Counts}
use Rattle.wm_disk.specs.Moments.{Elapses, LeavesOnly}
use Rattle.wm_disk.specs.declared.disk.Disk as disks
use Rattle.wm_disk.specs.declared.refusal.Refusal.{Refusal}
use Rattle.wm_disk.specs.declared.refusal.Refusal.TheVariants.{DeviceFailed}

module _ {D : Type 0} (disk : disks.Ghosts D) where
  -- A call on a disk, which may be refused.
  pub record Calls {T : Type 0} (old new : D) (result : Result T Refusal) : Type 0 where
    -- the disk is honest after the call only where it was before
    pub honest : disk.honest new → disk.honest old
    -- its count of failures doesn't fall
    pub failures_grow : disk.failures old ≤ disk.failures new
    -- where the call succeeds the disk didn't fail in it
    pub no_failure : OnOk result (disk.failures new ≡ disk.failures old)
    -- `13 DeviceFailed` comes only where the count rose
    pub failed : IsErrOf result DeviceFailed → Rose (disk.failures old) (disk.failures new)
    -- and another refusal only where it is as before
    pub failures_kept : IfErr result (λ e. e ≢ DeviceFailed → disk.failures new ≡ disk.failures old)

  -- A call on a disk, whose one error is a failure of the disk.
  pub record CallsDevice {T E : Type 0} (old new : D) (result : Result T E) : Type 0 where
    pub honest : disk.honest new → disk.honest old
    pub count : Counts (disk.failures old) (disk.failures new) result

  -- A call that takes the disk over, and hands it back with a refusal.
  pub record CallsWith {T : Type 0} (disk_in : T → D) (old : D) (result : Result T (Refusal × D)) : Type 0 where
    pub honest : IfOk result (λ t. disk.honest (disk_in t) → disk.honest old) × IfErr result (λ e. disk.honest e.1 → disk.honest old)
    pub failures_grow : IfOk result (λ t. disk.failures old ≤ disk.failures (disk_in t)) × IfErr result (λ e. disk.failures old ≤ disk.failures e.1)
    pub no_failure : IfOk result (λ t. disk.failures (disk_in t) ≡ disk.failures old)
    pub failed : IfErr result (λ e. e.0 ≡ DeviceFailed → Rose (disk.failures old) (disk.failures e.1))
    pub failures_kept : IfErr result (λ e. e.0 ≢ DeviceFailed → disk.failures e.1 ≡ disk.failures old)

  -- Nothing was written: the disk reads as before, and a crash leaves nothing that it might not have left before.
  pub record OnlyReads (old new : D) : Type 0 where
    pub seen : disk.seen new ≡ disk.seen old
    pub crash : NoMore (disk.may_leave old) (disk.may_leave new)
    pub time : Elapses (disk.moment old) (disk.moment new) (disk.left_since old) (disk.left_since new) (disk.may_leave new)

  -- each content that a crash may leave now has P
  abbrev pub EachLeft : D → (List ℕ → Type 0) → Type 0
  EachLeft now P = (c : List ℕ) → disk.may_leave now c → P c

  -- a crash at any moment of the call leaves a content that has P
  abbrev pub LeavesAtAnyMoment : D → D → (List ℕ → Type 0) → Type 0
  LeavesAtAnyMoment old new P = disk.honest new → LeavesOnly disk.moment disk.left_since old new P
