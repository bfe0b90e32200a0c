use Rattle.wm_serve.proofs.Sent.{if_ok}
use Rattle.wm_serve.proofs.server.serve.Goals as goal

pub returns : goal.returns
returns g c =
    let begun = c.in_ok-store.ensures.begun in
    if_ok c.serve_over-served.result c.serve_over-served.ensures (λ served made. (begun.0, c.in_ok-store.store, begun.1, begun.2, made))
