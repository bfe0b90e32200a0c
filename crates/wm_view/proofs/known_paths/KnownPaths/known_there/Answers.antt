use Rattle.std.proofs.Common.{ap, sym, ◌∙◌}
use Rattle.wm_view.specs.KnownPaths.{known_there}
use Rattle.wm_view.proofs.Rooms.{none_known}
use Rattle.wm_view.proofs.known_paths.KnownPaths.known_there.Goals as goal

pub returns-then-known-eq0 : goal.returns-then-known-eq0
returns-then-known-eq0 c =
    sym (ap (λ o. known_there o c.args.place.now.0) (none_known c.args.place.now.1 c.args.self.now.known.entries c.requires.ordered (ap (λ k. k.last) (sym c.known_or-known.ensures) ∙ c.if-known-eq0.true)))
