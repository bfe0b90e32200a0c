use Rattle.std.proofs.Common.{◌≡◌, ◌++◌, [], refl, ap, ◌∙◌, sym}
use Rattle.left_right.specs.Handles.{published, pending}
use Rattle.wm_share.specs.Operations.{held_list}
use Rattle.wm_share.specs.PublishedLists.{with_operations}
use Rattle.wm_share.proofs.Lists.{nothing_more, shown_whole}
use Rattle.wm_share.proofs.keeper.RootKeeper.publish.Goals as goal

pub invariant_of-self-2 : goal.invariant_of-self-2
invariant_of-self-2 g c =
    let k = c.self.inside in
    let now = g.T.Absorb.state (published c.publish.new.self) in
    let list = g.T.Absorb.state (published k.desk) in
    let whole : now ≡ with_operations list (pending k.desk ++ held_list k.held) =
    shown_whole g.T.Absorb.applied g.met.T.Listed.adds list _ now _ _ c.in-Ok.ensures.values.0 (ap g.T.Absorb.state c.in_ok-send_held.ensures.published) c.in_ok-send_held.ensures.pending.0 in
    (c.self.invariant.0, c.self.invariant.1 ∙ sym whole ∙ nothing_more now _ _ c.in-Ok.ensures.values.1 (ap held_list c.in_ok-send_held.ensures.pending.1))

pub returns : goal.returns
returns g c =
    let k = c.self.inside in
    let now = g.T.Absorb.state (published c.publish.new.self) in
    let list = g.T.Absorb.state (published k.desk) in
    let none : held_list c.send_held.new.held ≡ [] = ap held_list c.in_ok-send_held.ensures.pending.1 in
    let whole : now ≡ with_operations list (pending k.desk ++ held_list k.held) =
    shown_whole g.T.Absorb.applied g.met.T.Listed.adds list _ now _ _ c.in-Ok.ensures.values.0 (ap g.T.Absorb.state c.in_ok-send_held.ensures.published) c.in_ok-send_held.ensures.pending.0 in
    rw (c.told.ensures, c.published.ensures) (rw (← c.self.view_is) whole, refl, rw (c.in-Ok.ensures.values.1, none) refl)
