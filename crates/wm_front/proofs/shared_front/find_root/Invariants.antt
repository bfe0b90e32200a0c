use Rattle.wm_front.specs.Commands.{KeepsSeat}
use Rattle.wm_front.proofs.shared_front.find_root.Given as goal

abbrev pub invariant-finds : goal.invariant-finds
invariant-finds g l = KeepsSeat l.initial.seat l.seat
