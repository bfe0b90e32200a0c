use Rattle.std.proofs.Common.{◌≡◌, drop, fold, max}
use Rattle.wm_view.proofs.view_state.highest.Given as goal

abbrev pub invariant-loop-entry : goal.invariant-loop-entry
invariant-loop-entry l = fold (λ n e. max n e.1.last) l.highest (drop l.entry-index l.aged) ≡ fold (λ n e. max n e.1.last) l.floor l.aged
