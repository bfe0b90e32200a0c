use Rattle.std.proofs.Common.{◌≡◌, T, option_and_then}
use Rattle.std.specs.BTreeMap.{get, IsOrdered}
use Rattle.std.specs.BTreeMap.Range.{entries_between}
use Rattle.std.specs.Range.Bound.{bound_map}
use Rattle.std.specs.FinMap.{find, is_sorted}
use Rattle.std.specs.Option.{option_or}
use Rattle.wm_names.specs.Paths.{Path, path_cmp}
use Rattle.wm_view.specs.Changes.{gone_change}
use Rattle.wm_view.proofs.known_paths.KnownPaths.add_between.Given as goal

abbrev pub invariant-loop-path : goal.invariant-loop-path
invariant-loop-path l = record {
  so_far : (p : Path) → option_or (option_and_then (gone_change l.begun_at l.listing l.tick l.moment p) (find path_cmp p l.path-iterator)) (get path_cmp l.changes p)
      ≡ option_or (option_and_then (gone_change l.begun_at l.listing l.tick l.moment p) (find path_cmp p (entries_between path_cmp (bound_map (λ p. p.now) l.bounds.0) (bound_map (λ p. p.now) l.bounds.1) l.self.known.entries))) (get path_cmp l.initial.changes p);
  rest_ordered : T (is_sorted path_cmp l.path-iterator);
  ordered : IsOrdered path_cmp l.changes;
}
