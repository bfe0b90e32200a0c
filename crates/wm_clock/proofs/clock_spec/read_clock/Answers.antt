use Rattle.wm_clock.proofs.Texts.{has_colon, has_colon_again, has_incarnation, has_root, has_tick}
use Rattle.wm_clock.proofs.clock_spec.read_clock.Goals as goal

pub returns-in_err-incarnation : goal.returns-in_err-incarnation
returns-in_err-incarnation c =
    rw c.from_residual.ensures (λ k names. has_colon c.args.rest.now k names c.in_err-incarnation.ensures.cases)

pub returns-in_err-root : goal.returns-in_err-root
returns-in_err-root c =
    rw c.from_residual-in_err-root.ensures (λ k names. has_colon_again c.args.rest.now k names c.in_ok-incarnation.incarnation c.in_ok-incarnation.rest c.in_ok-incarnation.ensures.cases
    c.in_err-root.ensures.cases)

pub returns-in_err-incarnation-2 : goal.returns-in_err-incarnation-2
returns-in_err-incarnation-2 c =
    rw c.from_residual-in_err-incarnation-2.ensures (λ k names. has_incarnation c.args.rest.now k names c.in_ok-incarnation.incarnation c.in_ok-incarnation.rest c.in_ok-incarnation.ensures.cases
    c.in_ok-root.root c.in_ok-root.tick c.in_ok-root.ensures.cases c.in_err-incarnation-2.ensures)

pub returns-in_err-root-2 : goal.returns-in_err-root-2
returns-in_err-root-2 c =
    rw c.from_residual-in_err-root-2.ensures (λ k names. has_root c.args.rest.now k names c.in_ok-incarnation.incarnation c.in_ok-incarnation.rest c.in_ok-incarnation.ensures.cases
    c.in_ok-root.root c.in_ok-root.tick c.in_ok-root.ensures.cases c.in_err-root-2.ensures)

pub returns-in_err-tick : goal.returns-in_err-tick
returns-in_err-tick c =
    rw c.from_residual-in_err-tick.ensures (λ k names. has_tick c.args.rest.now k names c.in_ok-incarnation.incarnation c.in_ok-incarnation.rest c.in_ok-incarnation.ensures.cases
    c.in_ok-root.root c.in_ok-root.tick c.in_ok-root.ensures.cases c.in_err-tick.ensures)
