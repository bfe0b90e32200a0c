use Rattle.std.proofs.Common.{◌≡◌, drop, option_and_then}
use Rattle.std.specs.BTreeMap.{get, IsOrdered}
use Rattle.std.specs.FinMap.{find}
use Rattle.std.specs.Option.{option_or}
use Rattle.wm_names.specs.Paths.{Path, path_cmp}
use Rattle.wm_view.specs.Changes.{listed_change}
use Rattle.wm_view.specs.KnownPaths.{told}
use Rattle.wm_view.specs.Steps.{known_or}
use Rattle.wm_view.proofs.changes.listed_changes.Given as goal

abbrev pub invariant-loop-entry : goal.invariant-loop-entry
invariant-loop-entry l = record {
  so_far : (p : Path) → option_or (option_and_then (listed_change (known_or (told l.paths) p) l.begun_at l.tick l.moment) (find path_cmp p (drop l.entry-index l.files))) (get path_cmp l.changes p)
      ≡ option_and_then (listed_change (known_or (told l.paths) p) l.begun_at l.tick l.moment) (find path_cmp p l.files);
  ordered : IsOrdered path_cmp l.changes;
}
