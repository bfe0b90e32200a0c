use Rattle.std.proofs.Common.{◌≡◌, drop}
use Rattle.std.specs.Prelude.{is_some}
use Rattle.serde_json.specs.Find.{as_str}
use Rattle.serde_json.specs.View.{items_view}
use Rattle.wm_expr.specs.Readings.{each}
use Rattle.wm_expr.proofs.texts.are_texts.Given as goal

abbrev pub invariant-loop-item : goal.invariant-loop-item
invariant-loop-item l = is_some (each as_str (items_view (drop l.item-index l.items))) ≡ is_some (each as_str (items_view l.items))
