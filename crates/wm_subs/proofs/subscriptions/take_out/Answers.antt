use Rattle.std.proofs.Common.{◌≡◌, ◌≤◌, not, filter, length, option_map, subst, sym, ◌∙◌, List, arith}
use Rattle.wm_subs.specs.declared.subscribed.Subscribed.{Subscribed}
use Rattle.wm_subs.specs.SessionLists.{IsSession, is_meant}
use Rattle.wm_subs.proofs.Apart.{session_some}
use Rattle.wm_subs.proofs.Looking.{all_looked_at}
use Rattle.wm_subs.proofs.subscriptions.take_out.Goals as goal

pub returns-clause-apart : goal.returns-clause-apart
returns-clause-apart g c = λ session.
    let f = λ (s : Subscribed g.row.T.Denot). not (is_meant c.args.root.now (option_map (λ n. n.now) c.args.name) s) in
    let done : length c.loop-i.all.items ≤ c.loop-i.i = omega arith in
    let is : c.loop-i.all.items ≡ filter f c.args.all.now.items = sym (all_looked_at f c.loop-i.all.items c.loop-i.i done) ∙ c.loop-i.invariant.left in
    subst (λ (l : List (Subscribed g.row.T.Denot)). IsSession l) (sym is) (session_some f c.args.all.now.items session)
