use Rattle.std.proofs.Common.{◌≡◌}
use Rattle.wm_crawler.specs.FolderNames.{empty_folder, with_held_names}
use Rattle.wm_crawler.proofs.folder_names.read_names.Given as goal

abbrev pub invariant-loop : goal.invariant-loop
invariant-loop g l = record {
  stays : g.N.NameReader.stays l.fn.names → g.N.NameReader.stays l.names;
  read : g.N.NameReader.stays l.fn.names → with_held_names (g.N.NameReader.left l.names) l.dir ≡ with_held_names (g.N.NameReader.left l.fn.names) empty_folder;
  faults : g.N.NameReader.may_fail l.names → g.N.NameReader.may_fail l.fn.names;
}
