use Rattle.std.proofs.Common.{◌≡◌, ◌∙◌, ◌≤◌, ◌-◌, length, sym, subst, refl, arith}
use Rattle.std.proofs.lemmas.List.Elements.{All-from_recursion}
use Rattle.wm_session.specs.session.Sessions.{SubscriptionList}
use Rattle.wm_front.specs.Ended.{IsOnWatched}
use Rattle.wm_front.proofs.Ending.{ended_then, left_all, left_beyond, left_next, none_ended}
use Rattle.wm_front.proofs.ended.end_subscriptions.Goals as goal

pub loop-place-init : goal.loop-place-init
loop-place-init g c =
    let has = g.H.Roots.has c.args.roots.now in
    let lacks = g.H.Roots.lacks c.args.roots.now in
    let all : SubscriptionList = c.args.session.now.subscriptions in
    record {
      front = refl;
      ended = none_ended has lacks all;
      left = left_beyond has lacks (length c.subscriptions-place.result.now) all (subst (λ (l : SubscriptionList). length all ≤ length l) (sym c.subscriptions-place.ensures) (omega arith));
    }

pub returns-in_err-path-clause-front : goal.returns-in_err-path-clause-front
returns-in_err-path-clause-front g c = c.loop-place.invariant.front

pub returns-in_err-path-clause-ended : goal.returns-in_err-path-clause-ended
returns-in_err-path-clause-ended g c = c.loop-place.invariant.ended

pub loop-place-preserved-in_ok-path : goal.loop-place-preserved-in_ok-path
loop-place-preserved-in_ok-path g c =
    let has = g.H.Roots.has c.args.roots.now in
    let lacks = g.H.Roots.lacks c.args.roots.now in
    let place = c.loop-place.place in
    record {
      front = c.end_on.ensures.front ∙ c.loop-place.invariant.front;
      ended = ended_then has lacks _ c.args.session.now.subscriptions c.loop-place.session.subscriptions c.end_on.new.session.subscriptions c.loop-place.invariant.ended c.end_on.ensures.ended;
      left = left_next has lacks _ place (place - 1) c.subscriptions.result.now c.loop-place.session.subscriptions c.end_on.new.session.subscriptions c.in-Some.subscribed.now (omega (arith, c.loop-place-test.true)) c.subscriptions.ensures c.in-Some.ensures.lookup.3.0 c.in-Some.ensures.lookup.1 c.in_ok-path.ensures c.end_on.ensures.ended c.loop-place.invariant.left;
    }

pub loop-place-preserved-in_ok-path-2 : goal.loop-place-preserved-in_ok-path-2
loop-place-preserved-in_ok-path-2 g c =
    let has = g.H.Roots.has c.args.roots.now in
    let lacks = g.H.Roots.lacks c.args.roots.now in
    let place = c.loop-place.place in
    record {
      front = c.end_on.ensures.front ∙ c.loop-place.invariant.front;
      ended = ended_then has lacks _ c.args.session.now.subscriptions c.loop-place.session.subscriptions c.end_on.new.session.subscriptions c.loop-place.invariant.ended c.end_on.ensures.ended;
      left = left_next has lacks _ place (place - 1) c.subscriptions.result.now c.loop-place.session.subscriptions c.end_on.new.session.subscriptions c.in-Some.subscribed.now (omega (arith, c.loop-place-test.true)) c.subscriptions.ensures c.in-Some.ensures.lookup.3.0 c.in-Some.ensures.lookup.1 c.in_ok-path.ensures c.end_on.ensures.ended c.loop-place.invariant.left;
    }

pub loop-place-preserved : goal.loop-place-preserved
loop-place-preserved g c =
    let has = g.H.Roots.has c.args.roots.now in
    let lacks = g.H.Roots.lacks c.args.roots.now in
    let place = c.loop-place.place in
    record {
      front = c.loop-place.invariant.front;
      ended = c.loop-place.invariant.ended;
      left = left_beyond has lacks (place - 1) c.loop-place.session.subscriptions (subst (λ (l : SubscriptionList). length l ≤ place - 1) c.subscriptions.ensures c.in_default.ensures.lookup.3);
    }

pub returns-clause-front : goal.returns-clause-front
returns-clause-front g c = c.loop-place.invariant.front

pub returns-clause-ended : goal.returns-clause-ended
returns-clause-ended g c = c.loop-place.invariant.ended

pub returns-clause-left : goal.returns-clause-left
returns-clause-left g c =
    let P = IsOnWatched (g.H.Roots.has c.args.roots.now) (g.H.Roots.lacks c.args.roots.now) in
    let none : c.loop-place.place ≡ 0 = omega (arith, c.loop-place-test.false) in
    All-from_recursion P c.loop-place.session.subscriptions (left_all P c.loop-place.place c.loop-place.session.subscriptions none c.loop-place.invariant.left)
