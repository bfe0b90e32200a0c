use Rattle.std.proofs.Common.{refl, sym, ◌∙◌}
use Rattle.std.proofs.lemmas.Result.{IfOk-weaker, IfErr-weaker}
use Rattle.wm_groupcommit.proofs.Submitting.{answered, copy_pushed, declined, refused_after, refused_begin, unless_err}
use Rattle.wm_groupcommit.specs.Seats.{call_from}
use Rattle.wm_groupcommit.proofs.desk.Desk.submit.Goals as goal

pub returns-clause-answered : goal.returns-clause-answered
returns-clause-answered g c = IfOk-weaker c.receive.result _ _ (λ r h. answered c.args.seat.now _ c.args.command r.0 r.1 refl h) c.receive.ensures.ok

pub returns-clause-turned : goal.returns-clause-turned
returns-clause-turned g c =
    let pushed = unless_err c.push.result _ _ c.push.ensures.pushed (sym c.is_err.ensures.value ∙ c.if-is_err.false) in
    let same = copy_pushed c.args.seat.now _ c.in-Ok.copy c.args.command c.in-Ok.ensures pushed in
    IfErr-weaker c.receive.result _ _ (λ e h. declined c.args.seat.now _ c.args.command e h.0 refl same h.1) c.receive.ensures.err

pub returns-clause-refused : goal.returns-clause-refused
returns-clause-refused g c = IfErr-weaker c.receive.result _ _ (λ e h. refused_after c.args.seat.now _ c.args.command e h.1) c.receive.ensures.err

pub returns-clause-begin : goal.returns-clause-begin
returns-clause-begin g c =
    let s = c.args.seat.now in
    IfErr-weaker c.receive.result _ _ (λ e h. refused_begin s.replies c.receive.new.replies s.seen (call_from s c.args.command) e h.1) c.receive.ensures.err
