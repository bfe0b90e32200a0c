-- How the next incarnation begins: before any call of the keeper.
use Rattle.std.proofs.Common.{◌≡◌, refl, arith}
use Rattle.std.specs.Prelude.{Result, Ok, Err, IsErrOf, false}
use Rattle.wm_disk.specs.declared.disk.Disk as disks
use Rattle.wm_disk.specs.declared.refusal.Refusal.{Refusal}
use Rattle.wm_disk.specs.declared.refusal.Refusal.TheVariants.{DeviceFailed}
use Rattle.wm_disk.specs.laws.Runs.{OnlyNow}
use Rattle.wm_registry.specs.MachineLaws.{watches_in}
use Rattle.wm_checkpoint.specs.Kept.{has_failed, Keeps}
use Rattle.wm_store.specs.Beginnings.{CallsKeeper, StandsStill}
use Rattle.wm_store.specs.UnderWay.{K}
use Rattle.wm_store.proofs.Batching.{calls_none}
use Rattle.wm_store.proofs.Runs.{stood}
use Rattle.wm_registry.specs.declared.version.Version.{Version}
use Rattle.wm_checkpoint.specs.Layout.{Sizes}

module _ {D M V : Type 0} (disk : disks.Ghosts D) (sizes : Sizes) (version : Version) where
  pub stands_still : OnlyNow disk → (keeper : K M V disk) → Keeps (watches_in sizes version) keeper → has_failed keeper ≡ false → StandsStill disk sizes version keeper keeper
  stands_still only_now keeper kp alive = record { state = refl; any_moment = λ h. stood disk sizes version only_now keeper kp alive h }

  -- an answer that isn't the device's failure
  pub uncalled : {T : Type 0} (result : Result T Refusal) (keeper : K M V disk) → Keeps (watches_in sizes version) keeper → has_failed keeper ≡ false → (IsErrOf result DeviceFailed → ⊥) → CallsKeeper disk sizes version 1 keeper keeper result
  uncalled (Ok x) keeper kp alive none = record {
    kept = kp;
    calls = calls_none disk sizes version 1 keeper keeper refl;
    device = record { honest = λ h. h; failures_grow = omega arith; no_failure = refl; failed = λ e. absurd (none e); failures_kept = tt };
    works = alive;
    unfailed = tt;
  }
  uncalled (Err e) keeper kp alive none = record {
    kept = kp;
    calls = calls_none disk sizes version 1 keeper keeper refl;
    device = record { honest = λ h. h; failures_grow = omega arith; no_failure = tt; failed = λ e. absurd (none e); failures_kept = λ no. refl };
    works = tt;
    unfailed = λ no. alive;
  }
