-- For private clauses: a registry is taken up that a keeper found.
use Rattle.std.specs.Prelude.{◌≡◌, ◌⊎◌, Result, IfOk, IfErr}
use Rattle.wm_disk.specs.Moments.{LeavesOnly}
use Rattle.wm_disk.specs.declared.disk.Disk as disks
use Rattle.wm_disk.specs.declared.refusal.Refusal.{Refusal}
use Rattle.wm_disk.specs.declared.refusal.Refusal.TheVariants.{DeviceFailed, NoMemory, Exhausted, Damaged, Retired}
use Rattle.wm_checkpoint.specs.Kept.{disk_of}
use Rattle.wm_checkpoint.specs.KeeperCalls.{IsOpened}
use Rattle.wm_checkpoint.specs.Layout.{Sizes}
use Rattle.wm_registry.specs.MachineLaws.{watches_in}
use Rattle.wm_registry.specs.declared.version.Version.{Version}
use Rattle.wm_store.specs.Calls.{CallsForStore, IsWorking}
use Rattle.wm_store.specs.Openings.{IsBegun, IsLeftBy, IsRefusedFor}
use Rattle.wm_store.specs.Stored.{Stored}
use Rattle.wm_store.specs.UnderWay.{K}

-- A keeper found the registry that a disk means in this version, and nothing was written.
pub record IsFoundBy {D M V : Type 0} (disk : disks.Ghosts D) (l : Sizes) (v : Version) (old : D) (keeper : K M V disk) : Type 0 where
  pub opened : IsOpened (watches_in l v) old keeper
  pub seen : disk.honest (disk_of keeper) → disk.seen (disk_of keeper) ≡ disk.seen old
  pub any_moment : disk.honest (disk_of keeper) → LeavesOnly disk.moment disk.left_since old (disk_of keeper) (disk.may_leave old)
  pub honest : disk.honest (disk_of keeper) → disk.honest old
  pub failures : disk.failures (disk_of keeper) ≡ disk.failures old

-- A store was opened over this disk, or it wasn't.
pub record TakesUp {D : Type 0} (disk : disks.Ghosts D) (old : D) (result : Result (Stored D) (Refusal × D)) : Type 0 where
  pub begun : IfOk result (λ store. disk.honest store.disk → IsBegun disk old store)
  pub works : IfOk result (λ store. IsWorking disk store)
  pub why : IfErr result (λ e. disk.honest e.1 → IsRefusedFor disk old e.1 e.0)
  pub left : IfErr result (λ e. disk.honest e.1 → IsLeftBy disk old e.1 e.0)
  pub calls : CallsForStore disk old result
  pub kinds : IfErr result (λ e. (e.0 ≡ DeviceFailed) ⊎ (e.0 ≡ NoMemory) ⊎ (e.0 ≡ Exhausted) ⊎ (e.0 ≡ Damaged) ⊎ (e.0 ≡ Retired))
