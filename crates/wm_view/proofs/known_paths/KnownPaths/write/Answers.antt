use Rattle.std.proofs.Common.{ap, ◌∙◌, filter}
use Rattle.wm_view.specs.KnownPaths.{is_told}
use Rattle.wm_view.proofs.Rooms.{told_set, sound_write}
use Rattle.wm_view.proofs.known_paths.KnownPaths.write.Goals as goal

pub returns-in-Some-clause-value : goal.returns-in-Some-clause-value
returns-in-Some-clause-value c =
    ap (filter is_told) (c.get_mut.follows.holds c.args.known).0
    ∙ told_set c.args.path.now c.args.known c.args.self.now.known.entries c.requires.sound.ordered c.requires.room.entry c.requires.tick.0

pub returns-in-Some-clause-sound : goal.returns-in-Some-clause-sound
returns-in-Some-clause-sound c =
    sound_write c.args.self.now (c.get_mut.follows.lender c.args.known) c.args.path.now c.args.known c.requires.sound c.requires.room c.requires.tick.1 (returns-in-Some-clause-value c) (c.get_mut.follows.holds c.args.known).4
