use Rattle.std.proofs.Common.{◌≡◌, ℕ, List, Some}
use Rattle.std.specs.Io.KnownBytes.{Appends}
use Rattle.wm_client.specs.Talks.{HasLines, lines_first}
use Rattle.wm_client.proofs.Lines.{lines_behind}
use Rattle.wm_client.proofs.Printing.{PrintsCount}
use Rattle.wm_client.proofs.talking.print_lines.Given as goal

abbrev pub invariant-loop : goal.invariant-loop
invariant-loop g l = PrintsCount l.counter (g.W.Write.contents l.fn.printer) (g.W.Write.contents l.printer) × ((input : List ℕ) → g.R.Read.remaining l.fn.replies ≡ Some input
    → HasLines l.counter input × Appends (g.W.Write.contents l.fn.printer) (g.W.Write.contents l.printer) (lines_first l.counter input) × (g.R.Read.remaining l.replies ≡ Some (lines_behind l.counter input)))
