use Rattle.std.proofs.Common.{refl}
use Rattle.wm_subs.specs.Subscribers.{due_answer}
use Rattle.wm_subs.proofs.Folding.{folds, run_folds}
use Rattle.wm_subs.proofs.Once.{told_once}
use Rattle.wm_subs.proofs.laws.every_subscription.Goals as goal

pub returns-clause-folds : goal.returns-clause-folds
returns-clause-folds g c = run_folds c.every_client.ensures

pub returns-clause-each : goal.returns-clause-each
returns-clause-each g c = λ passes h s. folds c.every_client.ensures passes h s (due_answer passes h s) refl

pub returns-clause-once : goal.returns-clause-once
returns-clause-once g c = told_once
