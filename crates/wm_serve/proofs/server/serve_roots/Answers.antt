use denote.Param.{copied, param}
use denote.Param.Send.{sendable}
use denote.Ref.{NamedLft}
use Rattle.wm_workers.proofs.Crossing.{server_roots_sync}
use Rattle.wm_serve.proofs.Crossing.{server_sync}
use Rattle.wm_serve.proofs.server.serve_roots.Goals as goal

pub serve_logged-closed-requires-sync-H : goal.serve_logged-closed-requires-sync-H
serve_logged-closed-requires-sync-H g c κs within =
    let server = λ (κ : NamedLft). server_sync κ (param 0 g.row.T) (param 2 g.row.J) (copied 3 g.row.K) g.T.Registrar g.J.Naming c.type_bounds.sync-T c.type_bounds.send-K c.type_bounds.sync-K in
    search (sendable, server) depth 20 fits 5000

pub serve_logged-closed-requires-sync-M : goal.serve_logged-closed-requires-sync-M
serve_logged-closed-requires-sync-M g c κs within =
    let roots = server_roots_sync (param 0 g.row.T) (param 2 g.row.J) (copied 3 g.row.K) g.J.Naming c.type_bounds.sync-T c.type_bounds.send-K c.type_bounds.sync-K in
    search (sendable, roots) depth 20 fits 5000
