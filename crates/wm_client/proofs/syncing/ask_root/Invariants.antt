use Rattle.std.proofs.Common.{◌≡◌, ◌-◌, ◌++◌, ℕ, List, Some, codes}
use Rattle.wm_client.specs.Syncs.{IsAfterWaits, SendsStarts, clock_request}
use Rattle.wm_client.proofs.syncing.ask_root.Given as goal

abbrev pub invariant-loop-clock : goal.invariant-loop-clock
invariant-loop-clock g l = (l.timer.system.now ≡ l.fn.timer.system.now) × (l.timer.limit ≡ l.fn.timer.limit)
    × SendsStarts (clock_request l.fn.root ++ codes "\n") (g.S.Write.contents l.fn.sender) (g.S.Write.contents l.sender) × (g.W.Write.contents l.printer ≡ g.W.Write.contents l.fn.printer)
    × ((input : List ℕ) → g.R.Read.remaining l.fn.replies ≡ Some input → (k : ℕ) × (rest : List ℕ) × IsAfterWaits k input rest × (g.R.Read.remaining l.replies ≡ Some rest))

abbrev pub decreases-loop-clock : goal.decreases-loop-clock
decreases-loop-clock g l = l.timer.limit - l.timer.waited
