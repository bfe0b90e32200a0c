use Rattle.std.proofs.Common.{◌<◌, length, slice_set, subst, sym, ap, ◌∙◌, List}
use Rattle.wm_subs.specs.declared.subscribed.Subscribed.{Subscribed}
use Rattle.wm_subs.specs.SessionLists.{IsSession, told_at}
use Rattle.wm_subs.proofs.Apart.{session_told, told_is}
use Rattle.wm_subs.proofs.subscriptions.Subscriptions.told.Goals as goal

-- the list with one item written
written : goal.returns
written g c =
    ap (λ s. slice_set c.self.inside.all.items c.args.place (record { root = c.index_mut.result.now.root; number = c.index_mut.result.now.number; fields = c.index_mut.result.now.fields; subscription = s })) c.told.ensures.told
    ∙ told_is c.self.inside.all.items c.args.place c.args.clock c.index_mut.result.now (subst (λ (l : List (Subscribed g.row.T.Denot)). c.args.place < length l) (sym c.self.view_is) c.requires) c.index_mut.ensures.value
    ∙ ap (told_at c.args.place c.args.clock) c.self.view_is

pub invariant_of-self : goal.invariant_of-self
invariant_of-self g c =
    subst (λ (l : List (Subscribed g.row.T.Denot)). IsSession l) (sym (written g c ∙ ap (told_at c.args.place c.args.clock) (sym c.self.view_is)))
    (session_told c.args.place c.args.clock c.self.inside.all.items c.self.invariant)

pub returns : goal.returns
returns g c = written g c
