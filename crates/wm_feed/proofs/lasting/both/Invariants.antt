use Rattle.std.proofs.Common.{◌≡◌, take}
use Rattle.std.specs.List.{filter}
use Rattle.wm_feed.specs.Laws.{is_asked_path}
use Rattle.wm_feed.proofs.lasting.both.Given as goal

abbrev pub invariant-loop-path : goal.invariant-loop-path
invariant-loop-path l = l.both.items ≡ filter (λ p. is_asked_path p l.last.keys) (take l.path-index l.path-items)
