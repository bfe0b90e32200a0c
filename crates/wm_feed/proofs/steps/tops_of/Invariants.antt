use Rattle.std.proofs.Common.{◌≤◌, length, take}
use Rattle.wm_feed.proofs.Below.{AreTops}
use Rattle.wm_feed.proofs.steps.tops_of.Given as goal

abbrev pub invariant-loop-folder : goal.invariant-loop-folder
invariant-loop-folder l = record {
  are : AreTops l.folders (take l.folder-index l.folders) l.tops.items;
  few : length l.tops.items ≤ 1024;
}
