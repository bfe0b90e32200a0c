use Rattle.std.proofs.Common.{List, Option, subst}
use Rattle.std.proofs.lemmas.Result.{IfOk-weaker}
use Rattle.clap.specs.Words.{Row, Text}
use Rattle.wm_program.specs.ProgramWords.{MeetsFor, program_wanted}
use Rattle.wm_program.proofs.words.chosen.Goals as goal

pub returns-in-Some : goal.returns-in-Some
returns-in-Some c = IfOk-weaker c.named.result _ _ (λ r meets. subst (λ (o : Option (Text × List Row)). MeetsFor o (program_wanted r)) c.in-Some.ensures meets) c.named.ensures

pub returns-in-None : goal.returns-in-None
returns-in-None c = IfOk-weaker c.fault.result _ _ (λ r is. subst (λ (o : Option (Text × List Row)). MeetsFor o (program_wanted r)) c.in-None.ensures is) c.fault.ensures
