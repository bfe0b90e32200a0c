use Rattle.std.proofs.Common.{ap}
use Rattle.std.specs.Prelude.{Err}
use Rattle.wm_checkpoint.proofs.either.EitherKeeper.open.Goals as goal

pub returns-in-Ok-One-clause-opened : goal.returns-in-Ok-One-clause-opened
returns-in-Ok-One-clause-opened g c = c.of_found.ensures.opened c.args.disk (λ h.
    let reads = c.in-Ok-One.ensures.reads h in
    record { found = rw c.in-Ok-One.field-0-is at (c.in-Ok-One.ensures.found h); durable = reads.durable; seen = reads.seen })

pub returns-in-Ok-Two-clause-opened : goal.returns-in-Ok-Two-clause-opened
returns-in-Ok-Two-clause-opened g c = c.of_found-in-Ok-Two.ensures.opened c.args.disk (λ h.
    let reads = c.in-Ok-Two.ensures.reads h in
    record { found = rw c.in-Ok-Two.field-0-is at (c.in-Ok-Two.ensures.found h); durable = reads.durable; seen = reads.seen })

pub returns-in-Err-clause-damaged : goal.returns-in-Err-clause-damaged
returns-in-Err-clause-damaged g c = λ h is. c.in-Err.ensures.damaged h (ap (λ e. Err e) is)

pub returns-in-Err-clause-retired : goal.returns-in-Err-clause-retired
returns-in-Err-clause-retired g c = λ h is. c.in-Err.ensures.retired h (ap (λ e. Err e) is)
