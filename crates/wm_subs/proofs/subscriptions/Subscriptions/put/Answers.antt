use Rattle.std.proofs.Common.{rules, ◌≡◌, true, subst, sym, List}
use Rattle.wm_subs.specs.declared.subscribed.Subscribed.{Subscribed}
use Rattle.wm_subs.specs.SessionLists.{IsSession, may_subscribe, with_subscription}
use Rattle.wm_subs.proofs.Apart.{session_with}
use Rattle.wm_subs.proofs.subscriptions.Subscriptions.put.Goals as goal

pub invariant_of-self-2 : goal.invariant_of-self-2
invariant_of-self-2 g c =
    let all = c.self.inside.all.items in
    let is : c.push.new.self.items ≡ with_subscription c.args.subscribed all = search rules in
    let may : may_subscribe c.args.subscribed.root c.args.subscribed.subscription.name all ≡ true =
    subst (λ (l : List (Subscribed g.row.T.Denot)). may_subscribe c.args.subscribed.root c.args.subscribed.subscription.name l ≡ true) (sym c.self.view_is) c.requires in
    subst (λ (l : List (Subscribed g.row.T.Denot)). IsSession l) (sym is) (session_with c.args.subscribed all c.self.invariant may)
