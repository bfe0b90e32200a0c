use Rattle.std.proofs.Common.{inl, inr, ap, refl, sym, subst}
use Rattle.wm_front.specs.Ended.{AreWatched, IsWatched}
use Rattle.wm_front.specs.RootsSeen.{ViewerList}
use Rattle.wm_front.proofs.Ending.{none_ended}
use Rattle.wm_front.proofs.ended.drop_ended.Goals as goal

pub returns-then-count-session-clause-subscriptions : goal.returns-then-count-session-clause-subscriptions
returns-then-count-session-clause-subscriptions g c =
    none_ended (g.H.Roots.has c.args.session.now.front.roots.now) (g.H.Roots.lacks c.args.session.now.front.roots.now) c.args.session.now.subscriptions

pub returns-in-Ok-clause-viewers : goal.returns-in-Ok-clause-viewers
returns-in-Ok-clause-viewers g c =
    let roots = c.args.session.now.front.roots.now in
    let same = ap (λ f. f.viewers) c.end_subscriptions.ensures.front in
    inr (subst (λ (l : ViewerList). AreWatched (IsWatched (g.H.Roots.has roots)) (g.H.Roots.ended roots) c.args.session.now.front.viewers l) (sym same) c.drop_ended.ensures)

pub returns-in-Ok-clause-counted : goal.returns-in-Ok-clause-counted
returns-in-Ok-clause-counted g c =
    let roots = c.args.session.now.front.roots.now in
    let same = ap (λ f. f.viewers) c.end_subscriptions.ensures.front in
    inr (c.in-Ok.ensures.left, subst (λ (l : ViewerList). AreWatched (IsWatched (g.H.Roots.has roots)) (g.H.Roots.ended roots) c.args.session.now.front.viewers l) (sym same) c.drop_ended.ensures)

pub returns-in-Err-clause-viewers : goal.returns-in-Err-clause-viewers
returns-in-Err-clause-viewers g c =
    let roots = c.args.session.now.front.roots.now in
    let same = ap (λ f. f.viewers) c.end_subscriptions.ensures.front in
    inr (subst (λ (l : ViewerList). AreWatched (IsWatched (g.H.Roots.has roots)) (g.H.Roots.ended roots) c.args.session.now.front.viewers l) (sym same) c.drop_ended.ensures)

pub returns-in-Err-clause-counted : goal.returns-in-Err-clause-counted
returns-in-Err-clause-counted g c = inl (ap (λ f. f.ended_count) c.end_subscriptions.ensures.front)
