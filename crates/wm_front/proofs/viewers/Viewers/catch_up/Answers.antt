use Rattle.std.proofs.Common.{arith, inr, ◌∙◌, ◌<◌, length, get_or, ap, sym, subst, slice_set}
use Rattle.wm_front.specs.RootsSeen.{ViewerList}
use Rattle.wm_front.proofs.Placing.{found_there, seen_at}
use Rattle.wm_front.proofs.viewers.Viewers.catch_up.Goals as goal

pub index_mut-requires : goal.index_mut-requires
index_mut-requires g c =
    let lt : c.in-Some.place < length c.self.inside.all.items = subst (λ (l : ViewerList). c.in-Some.place < length l) (sym c.self.view_is) c.in-Some.ensures.0 in
    omega (arith, lt, c.self.inside.all.ok)

pub returns-in-Some : goal.returns-in-Some
returns-in-Some g c =
    let number = c.args.root.now.number in
    let x = c.index_mut.result.now in
    let new = c.catch_up.new.viewer in
    let placed = found_there number c.in-Some.place c.args.self.now c.in-Some.ensures.0 c.in-Some.ensures.1 c.in-Some.ensures.2 in
    inr (seen_at number c.in-Some.place c.args.self.now (slice_set c.self.inside.all.items c.in-Some.place new) x new placed
    (c.index_mut.ensures.value ∙ ap (λ (l : ViewerList). get_or l c.in-Some.place x) c.self.view_is)
    (ap (λ (l : ViewerList). slice_set l c.in-Some.place new) c.self.view_is)
    c.catch_up.ensures.seen)
