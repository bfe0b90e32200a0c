use Rattle.std.proofs.Common.{◌≡◌, false, length, rules}
use Rattle.std.specs.List.{list_any}
use Rattle.wm_front.specs.RootsSeen.{is_viewer_of}
use Rattle.wm_front.proofs.Placing.{found_there, taken_behind}
use Rattle.wm_front.proofs.viewers.Viewers.place.Goals as goal

pub returns-in-Some-clause-placed : goal.returns-in-Some-clause-placed
returns-in-Some-clause-placed g c = found_there c.args.root.now.number c.in-Some.place c.args.self.now c.in-Some.ensures.0 c.in-Some.ensures.1 c.in-Some.ensures.2

pub returns-clause-placed : goal.returns-clause-placed
returns-clause-placed g c =
    let none : list_any (is_viewer_of c.args.root.now.number) c.args.self.now ≡ false = search rules in
    let is : c.len-place.result ≡ length c.args.self.now = search rules in
    taken_behind c.args.root.now.number c.len-place.result c.args.self.now c.push_reserved.new.self.items c.in_ok-viewer.viewer none is (search rules) c.in_ok-viewer.ensures.own
