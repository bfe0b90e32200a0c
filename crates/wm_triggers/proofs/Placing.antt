-- The runs at a place, once one of theirs was started.
use Rattle.std.proofs.Common.{◌≡◌, ℕ, zero, suc, ◌<◌, List, [], ◌∷◌, length, get_or, slice_set, Some, ap, arith}
use Rattle.wm_clock.specs.declared.clock_id.ClockId.{ClockId}
use Rattle.wm_triggers.specs.KeptRuns.{KeptRuns, started_at}

pub started_is : (ks : List KeptRuns) (i : ℕ) (clock : ClockId) (k : KeptRuns) → i < length ks → k ≡ get_or ks i k → slice_set ks i (record k { last = Some clock }) ≡ started_at i clock ks
started_is [] i clock k l e = absurd (omega arith)
started_is (t ∷ ks) zero clock k l e = ap (λ (u : KeptRuns). record u { last = Some clock } ∷ ks) e
started_is (t ∷ ks) (suc i) clock k l e = ap (λ (us : List KeptRuns). t ∷ us) (started_is ks i clock k (omega arith) e)
