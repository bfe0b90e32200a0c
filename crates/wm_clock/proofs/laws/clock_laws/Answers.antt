use Rattle.wm_clock.proofs.Texts.{one_text, read_back, agree}
use Rattle.wm_clock.proofs.laws.clock_laws.Goals as goal

pub returns-clause-one_text : goal.returns-clause-one_text
returns-clause-one_text c = one_text

pub returns-clause-read_back : goal.returns-clause-read_back
returns-clause-read_back c = read_back

pub returns-clause-agree : goal.returns-clause-agree
returns-clause-agree c = agree
