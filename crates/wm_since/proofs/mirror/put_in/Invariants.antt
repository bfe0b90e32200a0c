use Rattle.std.proofs.Common.{◌≡◌, ◌≤◌, length, drop}
use Rattle.wm_since.specs.Clients.{is_put, put_in}
use Rattle.wm_since.proofs.mirror.put_in.Given as goal

abbrev pub invariant-loop-i : goal.invariant-loop-i
invariant-loop-i l = record { within : l.i ≤ length l.files; so_far : l.paths.items ≡ put_in (is_put l.answer) (drop l.i l.files) l.initial.paths.items }

abbrev pub decreases-loop-i : goal.decreases-loop-i
decreases-loop-i l = l.i
