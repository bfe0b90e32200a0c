use Rattle.std.proofs.Common.{◌≡◌, drop, Option, unwrap_or}
use Rattle.std.specs.BTreeMap.{get, IsOrdered}
use Rattle.wm_names.specs.Paths.{Path, path_cmp}
use Rattle.wm_names.specs.declared.entry.Meta.{Meta}
use Rattle.wm_view.specs.HistoryLaws.{last_told}
use Rattle.wm_root.proofs.observed.note_all.Given as goal

abbrev pub invariant-loop-pair : goal.invariant-loop-pair
invariant-loop-pair l = record {
  kept : (p : Path) (read : Option Meta) → last_told (drop l.pair-index l.pairs) p (unwrap_or (get path_cmp l.states p) read) ≡ last_told l.pairs p (unwrap_or (get path_cmp l.initial.states p) read);
  ordered : IsOrdered path_cmp l.states;
}
