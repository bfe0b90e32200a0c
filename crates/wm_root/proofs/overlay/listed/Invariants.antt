use Rattle.std.proofs.Common.{◌≡◌, true, None, unwrap_or}
use Rattle.std.specs.FinMap.{find}
use Rattle.std.specs.Map.{keys_of}
use Rattle.std.specs.List.Sorted.{IsStrictlySortedBy}
use Rattle.std.specs.Option.{option_or}
use Rattle.wm_names.specs.Entries.{covers}
use Rattle.wm_names.specs.Paths.{Path, path_cmp}
use Rattle.wm_view.specs.Files.{at}
use Rattle.wm_root.proofs.overlay.listed.Given as goal

abbrev pub invariant-loop-path : goal.invariant-loop-path
invariant-loop-path l = record {
  part : l.listing.subtree ≡ l.fn.subtree;
  files : (p : Path) → covers l.fn.subtree p ≡ true → option_or (at l.listing.files p) (unwrap_or (find path_cmp p l.path-iterator) None) ≡ unwrap_or (find path_cmp p l.states.entries) None;
  rest_ordered : IsStrictlySortedBy path_cmp (keys_of l.path-iterator);
}
