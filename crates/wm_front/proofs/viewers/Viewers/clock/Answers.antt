use Rattle.std.proofs.Common.{arith, ◌∙◌, ◌<◌, length, get_or, ap, sym, subst}
use Rattle.std.proofs.Common.{slice_set}
use Rattle.wm_front.specs.RootsSeen.{IsClockSeen, ViewerList}
use Rattle.wm_front.proofs.Placing.{shown_at}
use Rattle.wm_front.proofs.Reporting.{clock_still}
use Rattle.wm_front.proofs.viewers.Viewers.clock.Goals as goal

pub index_mut-viewer-requires : goal.index_mut-viewer-requires
index_mut-viewer-requires g c =
    let lt : c.in_ok-place.place < length c.self.inside.all.items = subst (λ (l : ViewerList). c.in_ok-place.place < length l) (sym c.self.view_is) c.in_ok-place.ensures.placed.within in
    omega (arith, lt, c.self.inside.all.ok)

pub returns : goal.returns
returns g c =
    let x = c.index_mut-viewer.result.now in
    let new = c.clock.new.viewer in
    shown_at c.args.root.now.number c.in_ok-place.place c.args.self.now c.place.new.self (slice_set c.self.inside.all.items c.in_ok-place.place new) x new c.unless_gone.result (λ old seen. IsClockSeen seen c.unless_gone.result) c.in_ok-place.ensures.placed
    (c.index_mut-viewer.ensures.value ∙ ap (λ (l : ViewerList). get_or l c.in_ok-place.place x) c.self.view_is)
    (ap (λ (l : ViewerList). slice_set l c.in_ok-place.place new) c.self.view_is)
    c.clock.ensures.seen
    (subst (λ r. IsClockSeen new r) (sym c.unless_gone.ensures) (clock_still x new c.clock.result c.clock.ensures.clock c.clock.ensures.refused))
