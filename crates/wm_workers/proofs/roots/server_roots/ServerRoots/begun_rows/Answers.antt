use Rattle.std.proofs.Common.{rules, ◌≡◌, []}
use Rattle.std.specs.Arc.{arc_value}
use Rattle.wm_workers.specs.BegunRoots.{root_id}
use Rattle.wm_workers.proofs.Begun.{all_begun}
use Rattle.wm_workers.proofs.roots.server_roots.ServerRoots.begun_rows.Goals as goal

pub returns : goal.returns
returns g c =
    let none : c.loop-path.path-iterator ≡ [] = search rules in
    all_begun (λ root. root_id (arc_value root)) c.args.registry.now.incarnation c.args.registry.now.roots c.loop-path.path-iterator c.loop-path.all.items none c.loop-path.invariant
