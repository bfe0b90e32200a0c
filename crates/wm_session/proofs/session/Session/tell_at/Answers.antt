use Rattle.std.proofs.Common.{◌≡◌, ◌∙◌, true, ap, length, rules, subst}
use Rattle.std.specs.Prelude.{slice_get}
use Rattle.wm_session.specs.session.Sessions.{SubscriptionList}
use Rattle.wm_session.specs.session.Tellings.{TellsBy}
use Rattle.wm_session.proofs.lemmas.session.DueLemmas.{got, none_by, told_length}
use Rattle.wm_session.proofs.session.Session.tell_at.Goals as goal

pub returns-in_ok-put_due-in-Some-clause-many : goal.returns-in_ok-put_due-in-Some-clause-many
returns-in_ok-put_due-in-Some-clause-many g c = ap (λ (l : SubscriptionList). length l) c.told.ensures ∙ told_length c.args.place _ c.args.self.now.subscriptions

pub returns-in-None-clause-ok : goal.returns-in-None-clause-ok
returns-in-None-clause-ok g c = λ x at.
    let same : c.index-as_slice-place.result ≡ x = c.index-as_slice-place.is ∙ got c.as_slice.result.now c.args.place x c.index-as_slice-place.result (ap (λ (l : SubscriptionList). slice_get l c.args.place) c.as_slice.ensures.value ∙ at) in
    subst (λ y. TellsBy g.F.Front.met true c.args.self.now.front c.args.place y c.args.self.now.subscriptions c.args.out.now.items c.due.new.self c.args.self.now.subscriptions c.args.out.now.items) same
    (none_by g.F.Front.met c.due.ensures.met.way c.args.self.now.front c.due.new.self c.due.ensures.met.found c.index-as_slice-place.result c.args.place c.args.self.now.subscriptions c.args.out.now.items c.due.ensures.met.at (search rules))
