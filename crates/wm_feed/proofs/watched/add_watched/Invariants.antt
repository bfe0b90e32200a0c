use Rattle.std.proofs.Common.{◌≡◌, map, take}
use Rattle.wm_feed.specs.Watched.{with_lines}
use Rattle.wm_feed.proofs.watched.add_watched.Given as goal

abbrev pub invariant-loop-line : goal.invariant-loop-line
invariant-loop-line l = l.watched.keys ≡ with_lines (map (λ line. line.now) (take l.line-index l.line-items)) l.initial.watched.keys
