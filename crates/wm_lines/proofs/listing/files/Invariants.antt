use Rattle.std.proofs.Common.{◌≡◌, drop}
use Rattle.std.specs.Prelude.{Some}
use Rattle.serde_json.specs.View.{items_view}
use Rattle.wm_view.specs.Files.{Files}
use Rattle.wm_lines.specs.ListingLines.{file_of, once}
use Rattle.wm_expr.specs.Readings.{each}
use Rattle.wm_lines.specs.PairLines.{by_text}
use Rattle.wm_lines.proofs.EachLemmas.{put_before}
use Rattle.wm_lines.proofs.listing.files.Given as goal

abbrev pub invariant-loop-item : goal.invariant-loop-item
invariant-loop-item l =
    (done : Files)
    × (each file_of (items_view l.item-items) ≡ put_before done (each file_of (items_view (drop l.item-index l.item-items))))
    × (once done ≡ Some (by_text l.files.entries))
