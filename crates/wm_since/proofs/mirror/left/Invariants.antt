use Rattle.std.proofs.Common.{◌≡◌, not, take, filter}
use Rattle.wm_since.specs.Clients.{is_gone}
use Rattle.wm_since.proofs.mirror.left.Given as goal

abbrev pub invariant-loop-path : goal.invariant-loop-path
invariant-loop-path l = l.left.items ≡ filter (λ p. not (is_gone l.files p)) (take l.path-index l.paths)
