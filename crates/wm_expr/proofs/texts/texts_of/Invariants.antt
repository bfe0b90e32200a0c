use Rattle.std.proofs.Common.{◌≡◌, drop, map}
use Rattle.serde_json.specs.Find.{as_str}
use Rattle.serde_json.specs.View.{items_view}
use Rattle.wm_expr.specs.Readings.{each}
use Rattle.wm_expr.proofs.Each.{put_before}
use Rattle.wm_expr.proofs.texts.texts_of.Given as goal

abbrev pub invariant-loop-item : goal.invariant-loop-item
invariant-loop-item l = each as_str (items_view l.items) ≡ put_before (map (λ t. t.now) l.texts.items) (each as_str (items_view (drop l.item-index l.items)))
