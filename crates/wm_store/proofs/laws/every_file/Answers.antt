use Rattle.wm_store.proofs.Meant.{one_file}
use Rattle.wm_store.proofs.laws.every_file.Goals as goal

pub returns : goal.returns
returns c = λ content s t m k. one_file c.every_content.ensures.one_meaning c.every_content-2.ensures.one_meaning content s t m k
