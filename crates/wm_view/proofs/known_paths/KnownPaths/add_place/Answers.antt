use Rattle.std.proofs.Common.{ap, ◌∙◌}
use Rattle.std.specs.List.{list_any}
use Rattle.std.specs.BTreeMap.{is_at}
use Rattle.wm_view.specs.KnownPaths.{place_cmp}
use Rattle.wm_view.proofs.Rooms.{sound_order, room_order, stays}
use Rattle.wm_view.proofs.known_paths.KnownPaths.add_place.Goals as goal

pub returns-in_err-insert-clause-sound : goal.returns-in_err-insert-clause-sound
returns-in_err-insert-clause-sound c =
    sound_order c.args.self.now c.insert.new.self c.requires.sound (λ q e. ap (list_any (is_at (place_cmp q))) c.in_err-insert.ensures.err ∙ e) c.in_err-insert.ensures.ordered

pub returns-clause-sound : goal.returns-clause-sound
returns-clause-sound c =
    sound_order c.args.self.now c.insert.new.self c.requires.sound (λ q e. c.in_ok-insert.ensures.updates.0 q ∙ stays _ _ e) c.in_ok-insert.ensures.ordered

pub returns-clause-kept : goal.returns-clause-kept
returns-clause-kept c = room_order c.args.self.now c.insert.new.self (λ q e. c.in_ok-insert.ensures.updates.0 q ∙ stays _ _ e)
