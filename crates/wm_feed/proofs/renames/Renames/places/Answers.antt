use Rattle.std.proofs.Common.{◌≡◌, ◌+◌, ◌<◌, ◌∷◌, [], ◌++◌, length, get_or, arith, sym, ap, ap₂, subst, ◌∙◌}
use Rattle.wm_feed.proofs.Places.{AreSoFar, places_begin, places_end, places_many, places_next}
use Rattle.wm_feed.proofs.renames.Renames.places.Goals as goal

pub loop-next-init : goal.loop-next-init
loop-next-init c =
    let items = c.in_ok-push.ensures.items ∙ ap₂ (λ ps p. ps ++ p ∷ []) c.new-places.ensures.items c.in_ok-copy.ensures in
    subst (AreSoFar c.args.self.now.renamed c.args.name.now 0) (sym items) (places_begin c.args.self.now.renamed c.args.name.now)

pub returns-in_default : goal.returns-in_default
returns-in_default c =
    let l = c.loop-next in
    let high = rw c.in_default.is at c.in_ok-place.ensures in
    places_end c.args.self.now.renamed c.args.name.now l.next l.places.items l.invariant (omega (arith, high, ap length c.deref.ensures.value))

pub loop-next-preserved : goal.loop-next-preserved
loop-next-preserved c =
    let l = c.loop-next in
    let place = c.in-Some.place in
    let found = rw c.in-Some.is at c.in_ok-place.ensures in
    let low : l.next < length l.places.items = omega (arith, found.0, ap length c.deref.ensures.value) in
    let here : place ≡ get_or l.places.items l.next place = found.1 ∙ ap (λ ps. get_or ps l.next place) c.deref.ensures.value in
    subst (AreSoFar c.args.self.now.renamed c.args.name.now (l.next + 1)) (sym c.in_ok-add_next.ensures) (places_next c.args.self.now.renamed c.args.name.now l.next l.places.items place l.invariant low here)

pub returns : goal.returns
returns c =
    let l = c.loop-next in
    places_many c.args.self.now.renamed c.args.name.now l.next l.places.items l.invariant (omega (arith, c.loop-next-test.false))
