use Rattle.std.proofs.Common.{◌≡◌, map}
use Rattle.wm_crawler.specs.FolderNames.{with_held_names}
use Rattle.wm_crawler.proofs.folder_names.add_names.Given as goal

abbrev pub invariant-loop-name : goal.invariant-loop-name
invariant-loop-name l = l.dir ≡ with_held_names (map (λ x. x.now) l.yielded) l.initial.dir
