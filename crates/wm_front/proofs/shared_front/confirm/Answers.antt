use Rattle.std.proofs.Common.{inr, refl, rules}
use Rattle.wm_front.proofs.Looking.{shown_to}
use Rattle.wm_front.proofs.shared_front.confirm.Goals as goal

pub returns-then-is_none-clause-refused : goal.returns-then-is_none-clause-refused
returns-then-is_none-clause-refused g c =
    let looked = c.in_ok-registry.ensures.looked in
    inr (refl, (c.in_ok-registry.registry, shown_to c.args.seat.now c.look_followed.new.seat c.in_ok-registry.registry looked.0 looked.1, search rules))

pub returns-clause-watched : goal.returns-clause-watched
returns-clause-watched g c =
    let looked = c.in_ok-registry.ensures.looked in
    (c.in_ok-registry.registry, shown_to c.args.seat.now c.look_followed.new.seat c.in_ok-registry.registry looked.0 looked.1, search rules)
