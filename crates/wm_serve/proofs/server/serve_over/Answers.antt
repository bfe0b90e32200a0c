use denote.Param.{param}
use denote.Param.Send.{sendable}
use Rattle.wm_groupcommit.proofs.Crossing.{desk_sync}
use Rattle.wm_serve.proofs.server.serve_over.Goals as goal

pub serve_roots-closed-requires-sync-T : goal.serve_roots-closed-requires-sync-T
serve_roots-closed-requires-sync-T g c κs within = search (sendable, desk_sync (param 0 g.row.D) g.D.Disk c.type_bounds.send-D) depth 20 fits 5000
