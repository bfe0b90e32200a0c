use Rattle.std.proofs.Common.{◌∙◌, ap, sym}
use Rattle.std.specs.List.{find}
use Rattle.wm_workers.specs.FollowedRoots.{end_of_root, end_of_row}
use Rattle.wm_workers.specs.WatchedRoots.{has_path}
use Rattle.wm_workers.proofs.Parting.{find_first, find_none}
use Rattle.wm_workers.proofs.roots.followed.unwatch.Goals as goal

pub returns-in_default-clause-ended : goal.returns-in_default-clause-ended
returns-in_default-clause-ended g c = sym (ap end_of_row (find_none (has_path c.args.path.now) c.args.roots.now.roots c.in_default.ensures.0))

pub returns-in-Some-watched-clause-ended : goal.returns-in-Some-watched-clause-ended
returns-in-Some-watched-clause-ended g c =
    let p = has_path c.args.path.now in
    let first = c.in-Some.ensures.0 in
    sym (ap end_of_row (ap (find p) first.2 ∙ find_first p first.0 c.in-Some.root first.1 first.3 first.4) ∙ ap end_of_root c.in-Some-watched.is)

pub returns-clause-ended : goal.returns-clause-ended
returns-clause-ended g c =
    let p = has_path c.args.path.now in
    let first = c.in-Some.ensures.0 in
    sym (ap end_of_row (ap (find p) first.2 ∙ find_first p first.0 c.in-Some.root first.1 first.3 first.4) ∙ ap end_of_root c.in-None.is)
