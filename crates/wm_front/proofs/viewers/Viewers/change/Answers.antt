use Rattle.std.proofs.Common.{arith, ◌∙◌, ◌<◌, length, get_or, ap, sym, subst}
use Rattle.std.proofs.Common.{slice_set}
use Rattle.wm_root.specs.ChangeSeen.{IsChangeSeen}
use Rattle.wm_front.specs.RootsSeen.{ViewerList}
use Rattle.wm_front.proofs.Placing.{done_at}
use Rattle.wm_front.proofs.viewers.Viewers.change.Goals as goal

pub index_mut-viewer-requires : goal.index_mut-viewer-requires
index_mut-viewer-requires g c =
    let lt : c.in_ok-place.place < length c.self.inside.all.items = subst (λ (l : ViewerList). c.in_ok-place.place < length l) (sym c.self.view_is) c.in_ok-place.ensures.placed.within in
    omega (arith, lt, c.self.inside.all.ok)

pub returns-clause-seen : goal.returns-clause-seen
returns-clause-seen g c =
    let x = c.index_mut-viewer.result.now in
    let new = c.change-2.new.viewer in
    done_at c.args.root.now.number c.in_ok-place.place c.args.self.now c.place.new.self (slice_set c.self.inside.all.items c.in_ok-place.place new) x new (λ old seen. IsChangeSeen old (g.S.Seconds.may_read c.args.seconds.now) c.args.change c.change-2.result.1.is_published c.change-2.result.0 seen) c.in_ok-place.ensures.placed
    (c.index_mut-viewer.ensures.value ∙ ap (λ (l : ViewerList). get_or l c.in_ok-place.place x) c.self.view_is)
    (ap (λ (l : ViewerList). slice_set l c.in_ok-place.place new) c.self.view_is)
    c.change-2.ensures.seen.0
    c.change-2.ensures.seen
