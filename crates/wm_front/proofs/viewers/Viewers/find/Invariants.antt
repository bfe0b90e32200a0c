use Rattle.std.proofs.Common.{◌≡◌, false, take}
use Rattle.std.specs.List.{list_any}
use Rattle.wm_front.specs.RootsSeen.{is_viewer_of}
use Rattle.wm_front.proofs.viewers.Viewers.find.Given as goal

abbrev pub invariant-loop-place : goal.invariant-loop-place
invariant-loop-place g l = list_any (is_viewer_of l.number) (take l.place l.self) ≡ false
