-- Bytes cut behind a mark.
use Rattle.std.proofs.Common.{◌≡◌, ℕ, zero, suc, ◌+◌, ◌-◌, ◌≤◌, List, [], ◌∷◌, ◌++◌, length, take, drop, Some, sym, subst, ap, ◌∙◌, arith}
use Rattle.std.specs.Prelude.{slice_index}
use Rattle.std.proofs.lemmas.List.{take-append-drop, length-take-le}
use Rattle.std.proofs.Math.Seq.{take-suc}
use Rattle.memchr.specs.Find.{FindsNeedle}
use Rattle.wm_feed.specs.Flows.{IsSplitBehind, record_end}

-- all through a mark that was found first
pub cut_behind : (mark bytes : List ℕ) (n : ℕ) → length mark ≤ n → n ≤ length bytes → FindsNeedle bytes mark 0 (Some (n - length mark)) → IsSplitBehind mark bytes (take n bytes) (drop n bytes)
cut_behind mark bytes n low high found =
    let long : length (take n bytes) ≡ n = length-take-le n bytes high in (
      sym (take-append-drop n bytes),
      subst (λ m. length mark ≤ m) (sym long) low,
      subst (λ m. FindsNeedle bytes mark 0 (Some (m - length mark))) (sym long) found,
    )

-- the same of a record, of which the newline is told apart
pub record_cut : (bytes : List ℕ) (n : ℕ) → 2 ≤ n → n ≤ length bytes → FindsNeedle bytes record_end 0 (Some (n - 2)) → IsSplitBehind record_end bytes (take (n - 1) bytes ++ 10 ∷ []) (drop n bytes)
record_cut bytes zero low high found = absurd (omega arith)
record_cut bytes (suc zero) low high found = absurd (omega arith)
record_cut bytes (suc (suc k)) low high found =
    let next : suc (suc k) - 2 + 1 ≡ suc k = omega arith in
    let newline : slice_index bytes (suc k) ≡ 10 = subst (λ m. slice_index bytes m ≡ 10) next (found.1.reads 1 (omega arith)) in
    let before : suc (suc k) - 1 ≡ suc k = omega arith in
    let last : take (suc (suc k)) bytes ≡ take (suc k) bytes ++ 10 ∷ [] = take-suc bytes (suc k) 0 (omega arith) ∙ ap (λ b. take (suc k) bytes ++ b ∷ []) newline in
    subst
    (λ front. IsSplitBehind record_end bytes front (drop (suc (suc k)) bytes))
    (last ∙ ap (λ m. take m bytes ++ 10 ∷ []) (sym before))
    (cut_behind record_end bytes (suc (suc k)) low high found)
