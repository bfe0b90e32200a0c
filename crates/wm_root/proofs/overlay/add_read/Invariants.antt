use Rattle.std.proofs.Common.{◌≡◌, drop, Some, option_map}
use Rattle.std.specs.BTreeMap.{get, IsOrdered}
use Rattle.std.specs.FinMap.{find}
use Rattle.std.specs.Option.{option_or}
use Rattle.wm_names.specs.Paths.{Path, path_cmp}
use Rattle.wm_root.proofs.overlay.add_read.Given as goal

abbrev pub invariant-loop-file : goal.invariant-loop-file
invariant-loop-file l = record {
  files : (p : Path) → option_or (get path_cmp l.states p) (option_map Some (find path_cmp p (drop l.file-index l.read))) ≡ option_or (get path_cmp l.initial.states p) (option_map Some (find path_cmp p l.read));
  ordered : IsOrdered path_cmp l.states;
}
