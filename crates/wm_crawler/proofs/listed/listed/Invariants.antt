use Rattle.std.proofs.Common.{◌≡◌, cond, None}
use Rattle.wm_names.specs.Paths.{Path}
use Rattle.wm_names.specs.Entries.{covers}
use Rattle.wm_view.specs.Files.{at}
use Rattle.wm_crawler.specs.Levels.{first_at}
use Rattle.wm_crawler.proofs.listed.listed.Given as goal

abbrev pub invariant-loop-path : goal.invariant-loop-path
invariant-loop-path l = record { part : l.listing.subtree ≡ l.fn.subtree; files : (p : Path) → at l.listing.files p ≡ cond (covers l.fn.subtree p) (first_at p l.yielded) None }
