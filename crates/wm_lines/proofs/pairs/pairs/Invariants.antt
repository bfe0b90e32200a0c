use Rattle.std.proofs.Common.{◌≡◌, drop}
use Rattle.serde_json.specs.View.{items_view}
use Rattle.wm_expr.specs.Readings.{each}
use Rattle.wm_lines.specs.PairLines.{by_text, pair_of}
use Rattle.wm_lines.proofs.EachLemmas.{put_before}
use Rattle.wm_lines.proofs.pairs.pairs.Given as goal

abbrev pub invariant-loop-item : goal.invariant-loop-item
invariant-loop-item l = each pair_of (items_view l.item-items) ≡ put_before (by_text l.pairs.items) (each pair_of (items_view (drop l.item-index l.item-items)))
