use Rattle.wm_since.proofs.Applies.{client_law}
use Rattle.wm_since.proofs.laws.every_client.Goals as goal

pub returns : goal.returns
returns c = λ passes h clock path_only. client_law passes path_only h clock
