use Rattle.std.proofs.Common.{rules}
use Rattle.wm_clock.specs.declared.clock_spec.ClockSpec.TheVariants.{Clock, Another}
use Rattle.wm_clock.proofs.Texts.{exact}
use Rattle.wm_clock.proofs.clock_spec.ClockSpec.read.Goals as goal

pub returns-in-Some-read_clock-clause-exact : goal.returns-in-Some-read_clock-clause-exact
returns-in-Some-read_clock-clause-exact c = exact c.args.text.now (Clock c.in-Some-read_clock.clock) (search rules)

pub returns-in-None-clause-exact : goal.returns-in-None-clause-exact
returns-in-None-clause-exact c = exact c.args.text.now Another (search rules)
