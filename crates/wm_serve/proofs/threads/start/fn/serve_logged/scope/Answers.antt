use denote.Param.Send.{sendable}
use Rattle.wm_serve.proofs.threads.start.fn.serve_logged.scope.Goals as goal

pub serve_on-served-requires-send-J : goal.serve_on-served-requires-send-J
serve_on-served-requires-send-J g c κs within = search (sendable, c.requires) depth 20 fits 5000

pub serve_on-served-requires-send-K : goal.serve_on-served-requires-send-K
serve_on-served-requires-send-K g c κs within = search (sendable, c.requires) depth 20 fits 5000
