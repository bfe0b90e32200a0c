use Rattle.std.proofs.Common.{refl, ◌≡◌, ◌∙◌, ap, arith, sym}
use Rattle.std.specs.List.{list_any}
use Rattle.wm_workers.specs.WatchedRoots.{has_number}
use Rattle.wm_workers.proofs.Parting.{any_first}
use Rattle.std.proofs.lemmas.Bool.Decides.{nat_tests}
use Rattle.wm_workers.proofs.Names.{had_named, lacked_number}
use Rattle.wm_workers.proofs.roots.table.RootTable.is_numbered.Goals as goal

pub returns-in-Some-clause-had : goal.returns-in-Some-clause-had
returns-in-Some-clause-had g c =
    let root = c.in-Some.field-0.now in
    let first = c.in-Some.ensures in
    let passes = first.4 in
    let same : root.number ≡ c.args.number = grind (arith, nat_tests) in
    (root.path, had_named c.args.self.now first.0 root first.1 root.path c.args.number c.numbers_rise.ensures first.2 refl same)

pub returns-in-None-clause-had : goal.returns-in-None-clause-had
returns-in-None-clause-had g c = lacked_number c.args.self.now c.args.number c.numbers_rise.ensures c.in-None.ensures

pub returns-in-Some-clause-found : goal.returns-in-Some-clause-found
returns-in-Some-clause-found g c =
    let first = c.in-Some.ensures in
    sym (ap (list_any (has_number c.args.number)) first.2 ∙ any_first (has_number c.args.number) first.0 c.in-Some.field-0.now first.1 first.4)
