-- Small logs of calls that an honest file may have, and some that it may not.
use Rattle.std.proofs.Common.{ℕ, [], ◌∷◌, length, refl, ap}
use Rattle.std.specs.Prelude.{◌≡◌, slice_index}
use Rattle.wm_file.specs.FileEvents.{measured, read, wrote, write_failed, IsHonest}

honest_reads : IsHonest [] (read 1 (8 ∷ []) ∷ measured 2 ∷ wrote 0 (7 ∷ 8 ∷ []) ∷ [])
honest_reads = (((tt, tt), refl), refl)

-- what a failed write put there is not seen
honest_failure : IsHonest (5 ∷ []) (read 0 (5 ∷ []) ∷ write_failed 0 (7 ∷ 8 ∷ []) ∷ [])
honest_failure = ((tt, tt), refl)

lying_read : ¬ IsHonest [] (read 0 (9 ∷ []) ∷ wrote 0 (7 ∷ []) ∷ [])
lying_read h = let e : slice_index (9 ∷ []) 0 ≡ 7 = ap (λ l. slice_index l 0) h.1 in absurd (cc)

lying_length : ¬ IsHonest [] (measured 1 ∷ [])
lying_length h = let e : 1 ≡ length {A = ℕ} [] = h.1 in absurd (cc)
