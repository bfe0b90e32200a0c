use Rattle.std.proofs.Common.{◌≡◌, ◌+◌, ◌++◌, not, take}
use Rattle.std.specs.List.{count_by, filter_map}
use Rattle.wm_names.specs.Entries.{is_fit}
use Rattle.wm_crawler.specs.Levels.{counted, path_of}
use Rattle.wm_crawler.proofs.reading.add_names.Given as goal

abbrev pub invariant-loop-name : goal.invariant-loop-name
invariant-loop-name l = record {
  paths : l.level.paths.items ≡ l.initial.level.paths.items ++ filter_map (path_of l.folder) (take l.name-index l.names);
  faults : l.level.faults ≡ counted (l.initial.level.faults + count_by (λ n. not (is_fit l.folder n)) (take l.name-index l.names));
}
