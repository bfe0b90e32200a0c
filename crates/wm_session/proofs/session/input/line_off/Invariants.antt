use Rattle.std.proofs.Common.{◌≡◌, ◌≤◌, ℕ, List, Some, vec_len}
use Rattle.wm_session.specs.session.Inputs.{max_kept}
use Rattle.wm_session.proofs.lemmas.session.InputLemmas.{Reading}
use Rattle.wm_session.proofs.session.input.line_off.Given as goal

abbrev pub invariant-loop : goal.invariant-loop
invariant-loop g l = (vec_len l.line ≤ max_kept) × ((input : List ℕ) → g.R.Read.remaining l.fn.reader ≡ Some input → Reading input (g.R.Read.remaining l.reader) l.line.items l.is_lost)
