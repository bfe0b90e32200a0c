use Rattle.std.proofs.Common.{Some, subst, sym}
use Rattle.wm_clock.specs.declared.clock_id.ClockId.{ClockId}
use Rattle.wm_subs.specs.Subscribers.{told_up_to}
use Rattle.wm_subs.specs.Folds.{FoldsOn}
use Rattle.wm_subs.proofs.Folding.{folds}
use Rattle.wm_subs.proofs.subscription.Subscription.told.Goals as goal

pub returns-clause-folds : goal.returns-clause-folds
returns-clause-folds g c = λ passes h a due same.
    subst (λ (clock : ClockId). FoldsOn passes h c.args.self.now (Some a) (told_up_to c.args.self.now clock)) same
    (folds c.every_client.ensures passes h c.args.self.now (Some a) (sym due))
