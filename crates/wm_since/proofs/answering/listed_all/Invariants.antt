use Rattle.std.proofs.Common.{◌≡◌}
use Rattle.wm_since.specs.Answers.{listed_all}
use Rattle.wm_since.proofs.answering.listed_all.Given as goal

abbrev pub invariant-loop-path : goal.invariant-loop-path
invariant-loop-path g l = l.files.items ≡ listed_all (g.T.Test.passes l.test) l.since l.yielded
