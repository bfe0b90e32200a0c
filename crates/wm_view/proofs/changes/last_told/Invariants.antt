use Rattle.std.proofs.Common.{◌≡◌, drop, Option, unwrap_or}
use Rattle.std.specs.BTreeMap.{get}
use Rattle.wm_names.specs.Paths.{Path, path_cmp}
use Rattle.wm_names.specs.declared.entry.Meta.{Meta}
use Rattle.wm_view.specs.HistoryLaws.{last_told}
use Rattle.wm_view.proofs.changes.last_told.Given as goal

abbrev pub invariant-loop-pair : goal.invariant-loop-pair
invariant-loop-pair l = (p : Path) (old : Option Meta) → last_told (drop l.pair-index l.pairs) p (unwrap_or (get path_cmp l.told p) old) ≡ last_told l.pairs p old
