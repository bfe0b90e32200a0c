-- What a disk of which one call fails has in mind.
use Rattle.std.specs.Prelude.{ℕ, Bool, Option}
use Rattle.wm_disk.specs.declared.fault.OneFault.{OneFault}

module _ {D : Type 0} where
  -- how many calls pass before the one that fails; none is left to fail behind that one
  abbrev pub calls_before : OneFault D → Option ℕ
  calls_before disk = disk.passes

  abbrev pub has_failed_once : OneFault D → Bool
  has_failed_once disk = disk.failed
