use Rattle.std.proofs.Common.{◌≡◌, ◌-◌, ◌++◌, ◌≤◌, length, take, drop}
use Rattle.wm_view.specs.Files.{with_path}
use Rattle.wm_since.proofs.mirror.place.Given as goal

abbrev pub invariant-loop-i : goal.invariant-loop-i
invariant-loop-i l = record { within : l.i ≤ length l.paths; there : with_path l.path l.paths ≡ take l.i l.paths ++ with_path l.path (drop l.i l.paths) }

abbrev pub decreases-loop-i : goal.decreases-loop-i
decreases-loop-i l = length l.paths - l.i
