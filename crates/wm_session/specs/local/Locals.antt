-- What a `LocalFront` shows, and why its close was refused.
use Rattle.std.specs.Prelude.{◌≡◌, true}
use Rattle.wm_disk.specs.Contents.{Rose}
use Rattle.wm_disk.specs.declared.disk.Disk.{Ghosts}
use Rattle.wm_disk.specs.declared.refusal.Refusal.{Refusal}
use Rattle.wm_disk.specs.declared.refusal.Refusal.TheVariants as refusals
use Rattle.wm_session.specs.session.Faults.{FrontState}
use Rattle.wm_session.specs.session.Sessions.{SessionState}
use Rattle.wm_session.specs.local.Stores.{front_state_with, state_with}
use Rattle.wm_session.specs.declared.local.local_front.LocalFront.{LocalFront}

module _ {D : Type 0} {g : Ghosts D} where
  abbrev pub disk_of_front : LocalFront D g → D
  disk_of_front front = front.store.disk

  -- what lines see of it
  abbrev pub session_state_of : LocalFront D g → SessionState
  session_state_of front = state_with front.store front.views.items

  abbrev pub front_state_of : Ghosts D → LocalFront D g → FrontState
  front_state_of disk front = front_state_with disk front.store front.views.items

  -- why a close was refused
  abbrev pub CloseRefused : Ghosts D → Refusal → LocalFront D g → D → Type 0
  CloseRefused disk refusals.StoreFailed front new = front.store.failed ≡ true
  CloseRefused disk refusals.DeviceFailed front new = Rose (disk.failures front.store.disk) (disk.failures new)
  CloseRefused disk _ front new = ⊥
