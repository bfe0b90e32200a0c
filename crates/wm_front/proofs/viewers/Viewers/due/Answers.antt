use Rattle.std.proofs.Common.{arith, ◌∙◌, ◌<◌, length, get_or, ap, sym, subst}
use Rattle.std.proofs.Common.{slice_set}
use Rattle.wm_front.specs.RootsSeen.{IsDueSeen, ViewerList}
use Rattle.wm_front.proofs.Placing.{begins_then, shown_at}
use Rattle.wm_front.proofs.viewers.Viewers.due.Goals as goal

pub index_mut-viewer-requires : goal.index_mut-viewer-requires
index_mut-viewer-requires g c =
    let lt : c.in_ok-place.place < length c.self.inside.all.items = subst (λ (l : ViewerList). c.in_ok-place.place < length l) (sym c.self.view_is) c.in_ok-place.ensures.placed.within in
    omega (arith, lt, c.self.inside.all.ok)

pub returns : goal.returns
returns g c =
    let x = c.index_mut-viewer.result.now in
    let new = c.due_of.new.viewer in
    shown_at c.args.root.now.number c.in_ok-place.place c.args.self.now c.place.new.self (slice_set c.self.inside.all.items c.in_ok-place.place new) x new c.due_of.result (λ old seen. IsDueSeen seen c.args.subscribed.now c.due_of.result) c.in_ok-place.ensures.placed
    (c.index_mut-viewer.ensures.value ∙ ap (λ (l : ViewerList). get_or l c.in_ok-place.place x) c.self.view_is)
    (ap (λ (l : ViewerList). slice_set l c.in_ok-place.place new) c.self.view_is)
    (begins_then x.list c.catch_up.new.viewer.list new.list c.catch_up.ensures.seen c.due_of.ensures.seen)
    c.due_of.ensures.due
