use Rattle.std.proofs.Common.{rules, ◌≡◌, not, ap, subst, sym, ◌∙◌, List}
use Rattle.std.proofs.lemmas.Fn.{filter_same}
use Rattle.wm_subs.specs.declared.subscribed.Subscribed.{Subscribed}
use Rattle.wm_subs.specs.SessionLists.{IsSession, is_on_earlier, without_earlier}
use Rattle.wm_subs.proofs.Apart.{session_some}
use Rattle.wm_subs.proofs.subscriptions.Subscriptions.remove_earlier.Goals as goal

pub invariant_of-self : goal.invariant_of-self
invariant_of-self g c =
    let before : List (Subscribed g.row.T.Denot) = c.self.inside.all.items in
    let left : c.retain.new.self.items ≡ without_earlier c.args.root.now c.args.number before =
    filter_same _ (λ (s : Subscribed g.row.T.Denot). not (is_on_earlier c.args.root.now c.args.number s)) _ (λ x b f' k. search rules) _ _ c.retain.ensures.filtered in
    subst (λ (l : List (Subscribed g.row.T.Denot)). IsSession l) (sym left) (session_some (λ s. not (is_on_earlier c.args.root.now c.args.number s)) before c.self.invariant)

pub returns : goal.returns
returns g c =
    let left : c.retain.new.self.items ≡ without_earlier c.args.root.now c.args.number c.self.inside.all.items =
    filter_same _ (λ (s : Subscribed g.row.T.Denot). not (is_on_earlier c.args.root.now c.args.number s)) _ (λ x b f' k. search rules) _ _ c.retain.ensures.filtered in
    left ∙ ap (without_earlier c.args.root.now c.args.number) c.self.view_is
