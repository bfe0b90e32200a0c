use Rattle.std.proofs.Common.{arith, ◌∙◌, ◌<◌, length, get_or, ap, sym, subst}
use Rattle.std.proofs.Common.{slice_set}
use Rattle.wm_front.specs.RootsSeen.{IsAnswerSeen, ViewerList}
use Rattle.wm_front.proofs.Placing.{shown_at}
use Rattle.wm_front.proofs.Reporting.{inquired_still}
use Rattle.wm_front.proofs.viewers.Viewers.inquire.Goals as goal

pub index_mut-viewer-requires : goal.index_mut-viewer-requires
index_mut-viewer-requires g c =
    let lt : c.in_ok-place.place < length c.self.inside.all.items = subst (λ (l : ViewerList). c.in_ok-place.place < length l) (sym c.self.view_is) c.in_ok-place.ensures.placed.within in
    omega (arith, lt, c.self.inside.all.ok)

pub returns-clause-met : goal.returns-clause-met
returns-clause-met g c =
    let x = c.index_mut-viewer.result.now in
    let new = c.inquire.new.viewer in
    shown_at c.args.root.now.number c.in_ok-place.place c.args.self.now c.place.new.self (slice_set c.self.inside.all.items c.in_ok-place.place new) x new c.unless_gone.result (λ old seen. IsAnswerSeen c.args.inquiry seen c.args.out.now.items c.unless_gone.result c.inquire.new.out.items) c.in_ok-place.ensures.placed
    (c.index_mut-viewer.ensures.value ∙ ap (λ (l : ViewerList). get_or l c.in_ok-place.place x) c.self.view_is)
    (ap (λ (l : ViewerList). slice_set l c.in_ok-place.place new) c.self.view_is)
    c.inquire.ensures.seen
    (subst (λ r. IsAnswerSeen c.args.inquiry new c.args.out.now.items r c.inquire.new.out.items) (sym c.unless_gone.ensures) (inquired_still c.args.inquiry c.inquire.ensures.answered.0 x new c.args.out.now.items c.inquire.new.out.items c.inquire.result c.inquire.ensures.answered.1))
