use Rattle.std.proofs.Common.{ℕ, subst, rules}
use Rattle.wm_names.specs.Paths.{Path}
use Rattle.wm_front.specs.Ended.{AreWatched}
use Rattle.wm_front.specs.RootsSeen.{ViewerList}
use Rattle.wm_front.proofs.Ending.{watched_left}
use Rattle.wm_front.proofs.viewers.Viewers.drop_ended.Goals as goal

pub returns : goal.returns
returns g c =
    let watched = λ (number : ℕ). (path : Path) × g.H.Roots.has c.args.roots.now path number in
    let ended = g.H.Roots.ended c.args.roots.now in
    let left = watched_left _ watched ended _ (λ x b f' k. search rules) _ _ c.retain.ensures.filtered in
    subst (λ (l : ViewerList). AreWatched watched ended l c.retain.new.self.items) c.self.view_is left
