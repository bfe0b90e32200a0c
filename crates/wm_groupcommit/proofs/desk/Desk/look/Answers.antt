use Rattle.std.proofs.Common.{Some, refl, sym, ap, ◌∙◌}
use Rattle.std.proofs.lemmas.Result.{IfOk-weaker, on_err_weaker}
use Rattle.wm_groupcommit.proofs.Looking.{looked, not_looked}
use Rattle.wm_groupcommit.proofs.desk.Desk.look.Goals as goal

pub receive_shown-requires : goal.receive_shown-requires
receive_shown-requires g c = record { own = c.args.seat.now.own ∙ ap Some (sym c.in_ok-shown.ensures.shown) }

pub returns-clause-looked : goal.returns-clause-looked
returns-clause-looked g c = IfOk-weaker c.receive_shown.result _ _ (λ r h. looked c.args.seat.now _ r.0 r.1 refl refl h) c.receive_shown.ensures.ok

pub returns-clause-err : goal.returns-clause-err
returns-clause-err g c = on_err_weaker c.receive_shown.result (λ h. not_looked c.args.seat.now _ refl refl h.0 h.1) c.receive_shown.ensures.err
