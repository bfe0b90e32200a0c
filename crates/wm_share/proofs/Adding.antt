-- The exchange that adds an operation to a share's list keeps the rule.
use Rattle.std.proofs.Common.{◌≡◌, ◌≢◌, ℕ, ◌+◌, ◌<◌, ◌==◌, Bool, true, false, List, [], ◌∷◌, ◌++◌, length, replicate, refl, ap, sym, ◌∙◌, subst, arith, inl, length-append, Option, None, slice_set}
use mathlib.Core.Logic.{⊎_elim}
use Rattle.std.proofs.lemmas.List.{append-nil, length-set, length-replicate, get_or-set_same, get_or-set_other, get_or-replicate}
use Rattle.std.proofs.lemmas.Bool.Decides.{eqb_tells, nat_tests}
use mathlib.Core.List.{IsPrefix}
use prog.Atomic.{either}
use Rattle.logbook.specs.Pages.{Cell, cell, Act, keeps, no_nib, nib_after, cells_after, step, Valid, Runs, Moves}
use Rattle.wm_view.specs.declared.op.Op.{Op}
use Rattle.wm_share.specs.declared.entry.Entry.{Entry}
use Rattle.wm_share.specs.Logs.{max_shares, operations_of}
use Rattle.wm_share.specs.Rules.{TellsLengths, Adds}
use Rattle.wm_share.proofs.Fronts.{prefix_whole}
use Rattle.wm_share.proofs.Logs.{operations-prefix, own_more, others_stay}

abbrev pub shown : List Entry → List Entry
shown log = []

abbrev pub moved : List Entry → List Entry → ℕ → Type 0
moved xs ys n = Unit {0}

-- ---- the words

-- a word that is set, where the other lists stay as they are
kept_set : (cs : List Cell) (log now : List Entry) (k x : ℕ) → TellsLengths cs log → k < max_shares → x ≡ length (operations_of k now)
    → ((m : ℕ) → m ≢ k → operations_of m now ≡ operations_of m log) → TellsLengths (slice_set cs k (x, true)) now
kept_set cs log now k x kept lt is same = record {
  all = length-set cs k (x, true) ∙ kept.all;
  words = λ m less. ⊎_elim
      (λ (p : ((m == k) ≡ true) × (m ≡ k)). subst (λ j. cell (slice_set cs k (x, true)) j ≡ (length (operations_of j now), true)) (sym p.1)
      (get_or-set_same cs k (x, true) (0, false) (subst (λ n. k < n) (sym kept.all) lt) ∙ ap (λ (n : ℕ). (n, true)) is))
      (λ (p : ((m == k) ≡ false) × (m ≢ k)). get_or-set_other cs k m (x, true) (0, false) p.1 ∙ (kept.words m less ∙ ap (λ (l : List Op). (length l, true)) (sym (same m p.1))))
      (eqb_tells m k);
}

-- a new book: no operation yet, and each word is 0
pub opens : (n : ℕ) → n ≡ max_shares → TellsLengths (replicate n (0, true)) []
opens n is = record {
  all = length-replicate n (0, true) ∙ is;
  words = λ m less. get_or-replicate n m (0, true) (0, false) (subst (λ j. m < j) (sym is) less);
}

-- ---- the step

abbrev pub Found : List Cell → List Entry → List Entry → Entry → ℕ → ℕ → ℕ → Type 0
Found cs log v e k old n =
    (a : Act) × (more : List Entry) × (t : Option ℕ) × Valid a no_nib × TellsLengths (cells_after a no_nib (slice_set cs k (either (n == old) (old + 1) n, true))) (log ++ more)
    × Runs moved None t (shown log) (shown (log ++ more)) × Adds (step k old (old + 1) e) (v, (no_nib, None)) n (log ++ more, (nib_after a no_nib cs, t))

adds_goes : (cs : List Cell) (log v : List Entry) (e : Entry) (k old : ℕ) → k < max_shares → e.share ≡ k → length (operations_of k v) ≡ old → IsPrefix v log → TellsLengths cs log
    → (b : Bool) → (length (operations_of k log) == old) ≡ b → Found cs log v e k old (length (operations_of k log))
adds_goes cs log v e k old lt mine len pre kept true is =
    let here : length (operations_of k log) ≡ old = grind (arith, nat_tests) in
    let same : operations_of k v ≡ operations_of k log = prefix_whole (operations_of k v) (operations_of k log) (operations-prefix k v log pre) (omega arith) in
    let more : operations_of k (log ++ e ∷ []) ≡ operations_of k log ++ e.op ∷ [] = own_more k log e mine in
    let n : old + 1 ≡ length (operations_of k (log ++ e ∷ [])) = omega (arith, ap length more, length-append (operations_of k log) (e.op ∷ [])) in (
      keeps,
      e ∷ [],
      None,
      tt,
      rw is (kept_set cs log (log ++ e ∷ []) k (old + 1) kept lt n (λ m h. others_stay m log e (λ s. h (sym s ∙ mine)))),
      inl (refl, refl),
      rw is (more ∙ ap (λ l. l ++ e.op ∷ []) (sym same)),
    )
adds_goes cs log v e k old lt mine len pre kept false is =
    let all : log ++ [] ≡ log = append-nil log in (
      keeps,
      [],
      None,
      tt,
      rw is (subst (λ l. TellsLengths (slice_set cs k (length (operations_of k log), true)) l) (sym all) (kept_set cs log log k (length (operations_of k log)) kept lt refl (λ m h. refl))),
      inl (refl, refl),
      rw is (ap (λ l. length (operations_of k l)) all),
    )

-- whatever the book is, the exchange adds the operation to all that was seen, or finds that the list is longer
pub adds_moves : (v : List Entry) (e : Entry) (k old : ℕ) → k < max_shares → e.share ≡ k → length (operations_of k v) ≡ old
    → Moves TellsLengths shown moved k (v, (no_nib, None)) (λ n. either (n == old) (old + 1) n) (Adds (step k old (old + 1) e) (v, (no_nib, None)))
adds_moves v e k old lt mine len cs log kept pre away =
    let at : cell cs k ≡ (length (operations_of k log), true) = kept.words k lt in (
      subst (λ n. k < n) (sym kept.all) lt,
      ap (λ c. c.1) at,
      subst (λ n. Found cs log v e k old n) (sym (ap (λ c. c.0) at)) (adds_goes cs log v e k old lt mine len pre kept (length (operations_of k log) == old) refl),
    )
