use Rattle.std.proofs.Common.{◌≡◌}
use Rattle.std.specs.BTreeMap.{get, IsOrdered}
use Rattle.std.specs.FinMap.{find}
use Rattle.std.specs.Option.{option_or}
use Rattle.std.specs.Map.{keys_of}
use Rattle.std.specs.List.Sorted.{IsStrictlySortedBy}
use Rattle.wm_names.specs.Paths.{Path, path_cmp}
use Rattle.wm_view.specs.KnownPaths.{told}
use Rattle.wm_view.specs.Changes.{told_change}
use Rattle.wm_view.specs.Steps.{known_or}
use Rattle.wm_view.proofs.changes.told_changes.Given as goal

abbrev pub invariant-loop-path : goal.invariant-loop-path
invariant-loop-path l = record {
  so_far : (p : Path) → option_or (told_change (known_or (told l.paths) p) l.tick l.moment (find path_cmp p l.path-iterator)) (get path_cmp l.changes p) ≡ told_change (known_or (told l.paths) p) l.tick l.moment (find path_cmp p l.told.entries);
  rest_ordered : IsStrictlySortedBy path_cmp (keys_of l.path-iterator);
  ordered : IsOrdered path_cmp l.changes;
}
