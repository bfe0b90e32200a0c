use Rattle.wm_session.proofs.lemmas.session.PartLemmas.{met_on_part}
use Rattle.wm_session.proofs.laws.every_part.Goals as goal

pub returns : goal.returns
returns c = met_on_part
