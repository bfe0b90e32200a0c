-- What is known of the time that a sync has waited.
use Rattle.std.proofs.Common.{◌≡◌, ◌+◌, ◌≤◌, ℕ, arith, subst}
use Rattle.std.proofs.Math.Logic.{∥∥₁_map}
use Rattle.wm_client.specs.Waits.{HasPassed}

same_le : (t : ℕ) → t ≤ t
same_le t = omega arith

less_le : (s t u : ℕ) → s ≤ t → t ≤ u → s ≤ u
less_le s t u p q = omega arith

more_le : (w t m : ℕ) → w ≤ t → w + m ≤ t + m
more_le w t m p = omega arith

pub passed_now : (passed : ℕ → Type 0) (t : ℕ) → passed t → HasPassed passed t
passed_now passed t known = ∣ (t, known, same_le t) ∣₁

pub passed_less : (passed : ℕ → Type 0) (s t : ℕ) → s ≤ t → HasPassed passed t → HasPassed passed s
passed_less passed s t below known = ∥∥₁_map known (λ k. (k.0, k.1, less_le s t k.0 below k.2))

pub passed_after : (passed : ℕ → Type 0) (w m : ℕ) → ((t : ℕ) → passed t → passed (t + m)) → HasPassed passed w → HasPassed passed (w + m)
passed_after passed w m sleeps known = ∥∥₁_map known (λ k. (k.0 + m, sleeps k.0 k.1, more_le w k.0 m k.2))

-- the same of the system and the limit as they were
pub passed_there : {S : Type 0} (passed : S → ℕ → Type 0) (s r : S) (l m : ℕ) → s ≡ r → l ≡ m → HasPassed (passed s) l → HasPassed (passed r) m
passed_there passed s r l m same even known = subst (λ x. HasPassed (passed x) m) same (subst (λ n. HasPassed (passed s) n) even known)
