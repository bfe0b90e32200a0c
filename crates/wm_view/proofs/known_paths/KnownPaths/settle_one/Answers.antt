use Rattle.std.proofs.Common.{ap, ◌∙◌}
use Rattle.std.specs.FinMap.{find}
use Rattle.wm_names.specs.Paths.{path_cmp}
use Rattle.wm_view.specs.KnownPaths.{told}
use Rattle.wm_view.proofs.Rooms.{found_put, exists_there, last_there}
use Rattle.wm_view.proofs.known_paths.KnownPaths.settle_one.Goals as goal

pub drop_gone-requires-clause-there : goal.drop_gone-requires-clause-there
drop_gone-requires-clause-there c = λ there.
    exists_there _ c.args.known (ap (find path_cmp c.args.path) c.write-last.ensures.value ∙ found_put c.args.path c.args.known (told c.args.self.now)) there

pub drop_place-requires-clause-other : goal.drop_place-requires-clause-other
drop_place-requires-clause-other c =
    last_there _ c.args.known c.write-last.result (ap (find path_cmp c.args.path) (c.drop_gone.ensures.same ∙ c.write-last.ensures.value) ∙ found_put c.args.path c.args.known (told c.args.self.now)) c.if-last-known.true

pub returns-then-last-known-clause-kept : goal.returns-then-last-known-clause-kept
returns-then-last-known-clause-kept c = λ t p e other h. c.drop_place.ensures.kept t p e other (c.drop_gone.ensures.kept t p e other (c.write-last.ensures.kept t p e h))

pub returns-else-last-known-clause-kept : goal.returns-else-last-known-clause-kept
returns-else-last-known-clause-kept c = λ t p e other h. c.drop_gone.ensures.kept t p e other (c.write-last.ensures.kept t p e h)
