use Rattle.std.proofs.Common.{◌≡◌, ◌++◌, true}
use Rattle.wm_lines.specs.ListingLines.{are_below}
use Rattle.wm_lines.specs.PairLines.{by_text}
use Rattle.wm_lines.proofs.listing.read_paths.Given as goal

abbrev pub invariant-loop-text : goal.invariant-loop-text
invariant-loop-text l = record {
  whole : by_text l.files.entries ≡ l.listing.files ++ by_text l.text-iterator;
  part : l.listing.subtree ≡ l.fn.subtree;
  good : are_below l.fn.subtree l.listing.files ≡ true;
}
