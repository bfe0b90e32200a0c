use Rattle.std.proofs.Common.{◌≡◌, ap}
use Rattle.std.specs.Prelude.{Err, IsErrOf}
use Rattle.wm_disk.specs.declared.refusal.Refusal.{Refusal}
use Rattle.wm_disk.specs.declared.refusal.Refusal.TheVariants.{Damaged, Retired}
use Rattle.wm_checkpoint.proofs.keeper.Keeper.read.Goals as goal

pub returns-in-Ok-clause-found : goal.returns-in-Ok-clause-found
returns-in-Ok-clause-found g c = λ h.
    let f = c.in-Ok.ensures.found h in
    record { slot = c.in-Ok.found.slot; number = c.in-Ok.found.number; base = f.base; commands = f.commands; means = f.means; is = f.is }

-- whatever an `Ok` would have had
err_is : {T : Type 0} (e f : Refusal) → IsErrOf {T = T} (Err e) f → e ≡ f
err_is e f is = cc

pub returns-in-Err-clause-damaged : goal.returns-in-Err-clause-damaged
returns-in-Err-clause-damaged g c = λ h is. c.in-Err.ensures.damaged h (ap (λ (e : Refusal). Err e) (err_is c.in-Err.refusal Damaged is))

pub returns-in-Err-clause-settled : goal.returns-in-Err-clause-settled
returns-in-Err-clause-settled g c = λ h is. c.in-Err.ensures.settled h (ap (λ (e : Refusal). Err e) (err_is c.in-Err.refusal Retired is))

pub returns-in-Err-clause-retired : goal.returns-in-Err-clause-retired
returns-in-Err-clause-retired g c = λ h is. c.in-Err.ensures.retired h (ap (λ (e : Refusal). Err e) (err_is c.in-Err.refusal Retired is))
