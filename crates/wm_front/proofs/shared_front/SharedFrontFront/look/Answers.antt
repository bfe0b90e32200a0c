use Rattle.std.proofs.Common.{refl, sym, ap, subst, false}
use Rattle.wm_session.specs.session.Faults.{Defined, Memory}
use Rattle.wm_front.specs.MetShared.{no_root}
use Rattle.std.specs.Prelude.{Err}
use Rattle.wm_front.proofs.Looking.{shown_at, shown_to}
use Rattle.wm_front.proofs.OneRoot.{with_registry}
use Rattle.wm_front.proofs.shared_front.SharedFrontFront.look.Goals as goal

pub returns-in-Err-clause-met : goal.returns-in-Err-clause-met
returns-in-Err-clause-met g c =
    record { way = Memory; found = no_root; at = (refl, refl, c.look_followed.ensures.keeps, tt); is = ap (λ x. Err x) c.in-Err.ensures.refused; shows = λ e. absurd (cc) }

pub returns-in-Err-clause-later : goal.returns-in-Err-clause-later
returns-in-Err-clause-later g c = c.look_followed.ensures.keeps

pub returns-clause-met : goal.returns-clause-met
returns-clause-met g c =
    let registry = c.in-Ok.registry in
    let s = with_registry registry false in
    let looked = c.in-Ok.ensures.looked in
    let followed = g.H.Roots.followed c.args.self.now.roots.now in
    let shown = shown_to c.args.self.now.seat c.look_followed.new.seat registry looked.0 looked.1 in
    let at = shown_at c.args.self.now.seat c.look_followed.new.seat registry looked.0 looked.1 in
    record {
      way = Defined;
      found = s;
      at = (refl, refl, c.look_followed.ensures.keeps, (shown, subst followed (sym at) looked.2));
      is = refl;
      shows = λ e. refl;
    }

pub returns-clause-later : goal.returns-clause-later
returns-clause-later g c = c.look_followed.ensures.keeps
