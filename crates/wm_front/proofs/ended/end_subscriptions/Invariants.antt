use Rattle.std.proofs.Common.{◌≡◌, drop}
use Rattle.std.specs.List.{AllByRecursion}
use Rattle.wm_front.specs.Ended.{HaveEnded, IsOnWatched}
use Rattle.wm_front.proofs.ended.end_subscriptions.Given as goal

abbrev pub invariant-loop-place : goal.invariant-loop-place
invariant-loop-place g l =
    record {
      front : l.session.front ≡ l.fn.session.front;
      ended : HaveEnded (g.H.Roots.has l.roots) (g.H.Roots.lacks l.roots) l.fn.session.subscriptions l.session.subscriptions;
      left : AllByRecursion (IsOnWatched (g.H.Roots.has l.roots) (g.H.Roots.lacks l.roots)) (drop l.place l.session.subscriptions);
    }

abbrev pub decreases-loop-place : goal.decreases-loop-place
decreases-loop-place g l = l.place
