use Rattle.std.proofs.Common.{◌∷◌, [], rules, subst}
use Rattle.wm_client.specs.Talks.{AppendsStart}
use Rattle.wm_client.proofs.Sending.{start_first, start_second}
use Rattle.wm_client.proofs.talking.send.Goals as goal

pub returns-then-send_bytes-clause-start : goal.returns-then-send_bytes-clause-start
returns-then-send_bytes-clause-start g c = start_second _ _ _ c.args.json.now (10 ∷ []) (search rules) c.send_bytes-then-send_bytes.ensures.start

pub returns-else-send_bytes-clause-start : goal.returns-else-send_bytes-clause-start
returns-else-send_bytes-clause-start g c = start_first _ _ c.args.json.now (10 ∷ []) (subst (AppendsStart _ _) c.as_bytes.ensures.value c.send_bytes.ensures.start)
